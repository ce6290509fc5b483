-- F-12 in numbers: of the list of records the first that serves is all that is asked.
use Prim.Native.Nat.{ℕ}
use mathlib.Core.Path.{◌≡◌, refl, ap, sym, ◌∙◌}
use mathlib.Core.Bool.{Bool, true, false}
use mathlib.Core.List.{List}
use Rattle.protocol.specs.declared.Record.{Record}
use Rattle.std.specs.Prelude.{Option}
use Rattle.protocol.specs.Answers.{Port}
use Rattle.protocol.specs.declared.SocksConfig.{SocksConfig}
use Rattle.protocol.specs.Opening.{V5, V4, first_record, first_four}
use Rattle.lookup.specs.Chosen.{chosen_of, records_of}
use Rattle.lookup.proofs.Firsts.{first_chosen, four_chosen}
use Rattle.client_opening.proofs.common.Records.{by_first5, by_first4}
use Rattle.endings.specs.Calls.{Produced, Call, StreamResult, stream5, stream4}
use Rattle.endings.proofs.Prepared.{prepared5, prepared4}
use Rattle.raw_numbers.specs.Numbers.{truth, port_of}
use Rattle.raw_records.specs.Records.{records_in}
use Rattle.lent_session.specs.Given.{config_of}
use Rattle.lent_session.specs.declared.preparing.RawConfig.{RawConfig}
use Rattle.lent_stream.specs.declared.RawStream.{RawStream}
use Rattle.lent_stream.specs.Stream.{wanted, asked5, asked4, raw_stream, Streams}

-- what a call by another name tells
streams : {c d : Call} {p : Produced} {r : RawStream} {buffer : List ℕ} → c ≡ d → StreamResult c p buffer → r ≡ raw_stream p → Streams d r buffer
streams e s q = record { returned = q ∙ ap raw_stream (s.returned ∙ ap (λ (c : Call). c.answer) e); left = s.left ∙ ap (λ (c : Call). c.buffer) e }

module _ (host : List ℕ) (port : ℕ) (records : List ℕ) (n s : ℕ) (buffer : List ℕ) {l : Option Record} {pt : Port} (ep : pt ≡ port_of port) {p : Produced} {r : RawStream} {buffer' : List ℕ} (q : r ≡ raw_stream p) where
  pub streams5 : (c : RawConfig) (user password : List ℕ) {cf : SocksConfig} → l ≡ chosen_of false (records_in records) → cf ≡ config_of c
      → StreamResult (stream5 (record { config = cf; host = host; port = pt; user = user; password = password; records = records_of l }) (wanted n s) buffer) p buffer'
      → Streams (asked5 c host port user password records n s buffer) r buffer'
  streams5 c user password {cf} el ec t =
      let first : first_record (records_of l) ≡ first_record (records_in records) = ap (λ (k : Option Record). first_record (records_of k)) el ∙ first_chosen (records_in records) in
      let a : V5 = record { config = cf; host = host; port = pt; user = user; password = password; records = records_of l } in
      let b : V5 = record { config = cf; host = host; port = pt; user = user; password = password; records = records_in records } in
      let e : stream5 a (wanted n s) buffer ≡ stream5 b (wanted n s) buffer =
      sym (prepared5 a (wanted n s) buffer refl) ∙ prepared5 b (wanted n s) buffer (by_first5 cf host pt user password (records_in records) (records_of l) (λ _. first)) in
      streams (e ∙ (λ i. stream5 (record { config = ec i; host = host; port = ep i; user = user; password = password; records = records_in records }) (wanted n s) buffer)) t q

  pub streams4 : (local_dns : ℕ) {b : Bool} → l ≡ chosen_of true (records_in records) → b ≡ truth local_dns
      → StreamResult (stream4 (record { local_dns = b; host = host; port = pt; records = records_of l }) (wanted n s) buffer) p buffer'
      → Streams (asked4 local_dns host port records n s buffer) r buffer'
  streams4 local_dns {b} el eb t =
      let first : first_four (records_of l) ≡ first_four (records_in records) = ap (λ (k : Option Record). first_four (records_of k)) el ∙ four_chosen (records_in records) in
      let x : V4 = record { local_dns = b; host = host; port = pt; records = records_of l } in
      let y : V4 = record { local_dns = b; host = host; port = pt; records = records_in records } in
      let e : stream4 x (wanted n s) buffer ≡ stream4 y (wanted n s) buffer =
      sym (prepared4 x (wanted n s) buffer refl) ∙ prepared4 y (wanted n s) buffer (by_first4 b host pt (records_in records) (records_of l) (λ _. first)) in
      streams (e ∙ (λ i. stream4 (record { local_dns = eb i; host = host; port = ep i; records = records_in records }) (wanted n s) buffer)) t q
