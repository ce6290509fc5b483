-- What preparing makes of numbers and bytes.
use Prim.Native.Nat.{ℕ}
use mathlib.Core.Path.{◌≡◌, ap, ◌∙◌}
use mathlib.Core.Bool.{Bool, true, false}
use mathlib.Core.List.{List}
use Rattle.protocol.specs.declared.Record.{Record}
use Rattle.std.specs.Prelude.{Option}
use Rattle.protocol.specs.Answers.{Port}
use Rattle.protocol.specs.declared.SocksConfig.{SocksConfig}
use Rattle.protocol.specs.Opening.{first_record, first_four}
use Rattle.lookup.specs.Chosen.{chosen_of, records_of}
use Rattle.lookup.proofs.Firsts.{first_chosen, four_chosen}
use Rattle.client_session.specs.declared.Prepared.{Prepared}
use Rattle.client_session.specs.Calls.{prepare5, prepare4}
use Rattle.client_opening.proofs.common.Records.{by_first5, by_first4}
use Rattle.raw_numbers.specs.Numbers.{truth, port_of}
use Rattle.raw_records.specs.Records.{records_in}
use Rattle.raw_session.specs.declared.RawStep.{RawStep}
use Rattle.raw_openings.specs.declared.RawConfig.{RawConfig}
use Rattle.raw_openings.specs.Given.{config_of, given5, given4, prepared_step}

pub config_as : (c : RawConfig) {a l o : Bool} → a ≡ truth c.proxy_auth → l ≡ truth c.local_dns → o ≡ truth c.optimistic
    → ◌≡◌ {A = SocksConfig} (record { proxy_auth = a; local_dns = l; optimistic = o }) (config_of c)
config_as c a l o = λ i. record { proxy_auth = a i; local_dns = l i; optimistic = o i }

-- of the list of records the first that serves is all that is asked

pub prepared5 : (c : RawConfig) (host : List ℕ) (port : ℕ) (user password records : List ℕ) {l : Option Record} {cf : SocksConfig} {pt : Port} {p : Prepared} {r : RawStep}
    → l ≡ chosen_of false (records_in records) → cf ≡ config_of c → pt ≡ port_of port
    → p ≡ prepare5 (record { config = cf; host = host; port = pt; user = user; password = password; records = records_of l }) → r ≡ prepared_step p
    → r ≡ prepared_step (prepare5 (given5 c host port user password records))
prepared5 c host port user password records {l} {cf} {pt} {p} {r} el ec ep e er =
    let first : first_record (records_of l) ≡ first_record (records_in records) = ap (λ (k : Option Record). first_record (records_of k)) el ∙ first_chosen (records_in records) in
    let h : p ≡ prepare5 (record { config = cf; host = host; port = pt; user = user; password = password; records = records_in records }) = e ∙ by_first5 cf host pt user password (records_in records) (records_of l) (λ _. first) in
    let g : p ≡ prepare5 (given5 c host port user password records) = h ∙ (λ i. prepare5 (record { config = ec i; host = host; port = ep i; user = user; password = password; records = records_in records })) in
    er ∙ ap prepared_step g

pub prepared4 : (local_dns : ℕ) (host : List ℕ) (port : ℕ) (records : List ℕ) {l : Option Record} {t : Bool} {pt : Port} {p : Prepared} {r : RawStep}
    → l ≡ chosen_of true (records_in records) → t ≡ truth local_dns → pt ≡ port_of port
    → p ≡ prepare4 (record { local_dns = t; host = host; port = pt; records = records_of l }) → r ≡ prepared_step p
    → r ≡ prepared_step (prepare4 (given4 local_dns host port records))
prepared4 local_dns host port records {l} {t} {pt} {p} {r} el et ep e er =
    let first : first_four (records_of l) ≡ first_four (records_in records) = ap (λ (k : Option Record). first_four (records_of k)) el ∙ four_chosen (records_in records) in
    let h : p ≡ prepare4 (record { local_dns = t; host = host; port = pt; records = records_in records }) = e ∙ by_first4 t host pt (records_in records) (records_of l) (λ _. first) in
    let g : p ≡ prepare4 (given4 local_dns host port records) = h ∙ (λ i. prepare4 (record { local_dns = et i; host = host; port = ep i; records = records_in records })) in
    er ∙ ap prepared_step g
