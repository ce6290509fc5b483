-- What preparing reads of its list of records is all that it asks of it.
use Prim.Native.Nat.{ℕ, ◌<◌, ◌^◌}
use native.Mathlib.Omega.{arith}
use mathlib.Core.Path.{◌≡◌, refl, ap, ◌∙◌}
use mathlib.Core.Bool.{Bool, true, false, cond, not, ◌&&◌, ◌||◌}
use mathlib.Core.List.{List}
use lib.ListN.{length, take}
use lib.Seq.{take_all}
use lib.Dec.{ltb}
use Rattle.std.specs.Prelude.{Option, None}
use Rattle.protocol.specs.declared.Record.{Record}
use Rattle.protocol.specs.Answers.{Port, Answer, Accepted}
use Rattle.protocol.specs.declared.SocksConfig.{SocksConfig}
use Rattle.protocol.specs.declared.SocksError.{SocksError}
use Rattle.protocol.specs.declared.SocksError.TheVariants.{MissingHost, HostByte, MissingPort, CredentialTooLong, HostTooLong, IpV6, DnsFailure, AnnouncesName}
use Rattle.protocol.specs.Host.{strip, all_allowed}
use Rattle.protocol.specs.AddressReading.{Destination, ipv4, ipv6, domain, destination_of}
use Rattle.protocol.specs.Opening.{V5, V4, first_record, first_four, refuse, is_empty, is_missing, is_name, is_ipv6, is_none, is_announcing, check5, check4, Opening, v5, v4, Credentials, asked5, asked4, credentials_if, port_number, opening5, opening4}
use Rattle.lookup.specs.Chosen.{chosen_of, records_of}
use Rattle.lookup.proofs.Firsts.{first_chosen, first_alone, four_chosen}
use Rattle.client_opening.specs.host.Lookups.{looks_up}
use Rattle.client_session.specs.declared.Prepared.{Prepared}
use Rattle.client_session.specs.Calls.{prepared_by, prepare5, prepare4}

-- ---- preparing by its checks: what stands behind a refusal does not matter

under : (b : Bool) (e : SocksError) (x x' : Answer) (o o' : Opening)
    → prepared_by x o ≡ prepared_by x' o' → prepared_by (refuse b e x) o ≡ prepared_by (refuse b e x') o'
under true e x x' o o' p = refl
under false e x x' o o' p = p

module _ (q rs : List Record) (port : ℕ) where
  -- the last two checks over v5, and what is asked
  abbrev ends5 : List Record → Bool → Bool → Destination → Credentials → Bool → Prepared
  ends5 list l long d c o =
      prepared_by (refuse (is_name d && long) HostTooLong (refuse (l && (is_name d && is_none (first_record list))) DnsFailure Accepted))
      (v5 c (asked5 l list d) port o)

  last5 : (l long : Bool) (d : Destination) (c : Credentials) (o : Bool) → (l && (not long && is_name d) ≡ true → first_record q ≡ first_record rs)
      → ends5 q l long d c o ≡ ends5 rs l long d c o
  last5 true long (ipv4 bs) c o h = refl
  last5 false long (ipv4 bs) c o h = refl
  last5 true long (ipv6 bs) c o h = refl
  last5 false long (ipv6 bs) c o h = refl
  last5 false long (domain s) c o h = refl
  last5 true true (domain s) c o h = refl
  last5 true false (domain s) c o h = rw (h refl)

  -- the last three checks over v4, and what is asked
  abbrev ends4 : List Record → Bool → Bool → Destination → Prepared
  ends4 list l long d =
      prepared_by (refuse (is_name d && long) HostTooLong (refuse (l && (is_name d && is_none (first_four list))) DnsFailure (refuse (is_announcing (asked4 l list d)) AnnouncesName Accepted)))
      (v4 (asked4 l list d) port)

  last4 : (l long : Bool) (d : Destination) → (l && (not long && is_name d) ≡ true → first_four q ≡ first_four rs) → ends4 q l long d ≡ ends4 rs l long d
  last4 true long (ipv4 bs) h = refl
  last4 false long (ipv4 bs) h = refl
  last4 true long (ipv6 bs) h = refl
  last4 false long (ipv6 bs) h = refl
  last4 false long (domain s) h = refl
  last4 true true (domain s) h = refl
  last4 true false (domain s) h = rw (h refl)

-- ---- preparing over a list: of two lists that agree where a name is looked up

module _ (config : SocksConfig) (host : List ℕ) (port : Port) (user password : List ℕ) (rs : List Record) where
  abbrev given5 : List Record → V5
  given5 q = record { config = config; host = host; port = port; user = user; password = password; records = q }

  pub by_first5 : (q : List Record) → (looks_up config.local_dns host 255 ≡ true → first_record q ≡ first_record rs) → prepare5 (given5 q) ≡ prepare5 (given5 rs)
  unfolding prepare5 check5 opening5
  by_first5 q h =
      under (is_empty host || is_empty (strip host)) MissingHost _ _ _ _
      (under (not (all_allowed (strip host))) HostByte _ _ _ _
      (under (is_missing port) MissingPort _ _ _ _
      (under (config.proxy_auth && (ltb 255 (length user) || ltb 255 (length password))) CredentialTooLong _ _ _ _
      (last5 q rs (port_number port) config.local_dns (ltb 255 (length (strip host))) (destination_of (strip host)) (credentials_if config.proxy_auth user password) config.optimistic h))))

  pub by_choice5 : (c : Option Record) → c ≡ cond (looks_up config.local_dns host 255) (chosen_of false rs) None → prepare5 (given5 (records_of c)) ≡ prepare5 (given5 rs)
  by_choice5 c ec = by_first5 (records_of c) (λ z. ap (λ (l : Option Record). first_record (records_of l)) (ec ∙ ap (λ (b : Bool). cond b (chosen_of false rs) None) z) ∙ first_chosen rs)

  -- of the list cut short
  pub by_list5 : (m : ℕ) (c : Option Record) → m ≡ cond (looks_up config.local_dns host 255) 1 0 → c ≡ chosen_of false (take m rs) → prepare5 (given5 (records_of c)) ≡ prepare5 (given5 rs)
  by_list5 m c em ec = by_first5 (records_of c) (λ z.
      let k : m ≡ 1 = em ∙ ap (λ (b : Bool). cond b 1 0) z in
      ap (λ (l : Option Record). first_record (records_of l)) (ec ∙ ap (λ (n : ℕ). chosen_of false (take n rs)) k) ∙ first_chosen (take 1 rs) ∙ first_alone rs)

module _ (local_dns : Bool) (host : List ℕ) (port : Port) (rs : List Record) where
  abbrev given4 : List Record → V4
  given4 q = record { local_dns = local_dns; host = host; port = port; records = q }

  pub by_first4 : (q : List Record) → (looks_up local_dns host 1014 ≡ true → first_four q ≡ first_four rs) → prepare4 (given4 q) ≡ prepare4 (given4 rs)
  unfolding prepare4 check4 opening4
  by_first4 q h =
      under (is_empty host || is_empty (strip host)) MissingHost _ _ _ _
      (under (not (all_allowed (strip host))) HostByte _ _ _ _
      (under (is_missing port) MissingPort _ _ _ _
      (under (is_ipv6 (destination_of (strip host))) IpV6 _ _ _ _
      (last4 q rs (port_number port) local_dns (ltb 1014 (length (strip host))) (destination_of (strip host)) h))))

  pub by_choice4 : (c : Option Record) → c ≡ cond (looks_up local_dns host 1014) (chosen_of true rs) None → prepare4 (given4 (records_of c)) ≡ prepare4 (given4 rs)
  by_choice4 c ec = by_first4 (records_of c) (λ z. ap (λ (l : Option Record). first_four (records_of l)) (ec ∙ ap (λ (b : Bool). cond b (chosen_of true rs) None) z) ∙ four_chosen rs)

  pub by_list4 : (m : ℕ) (c : Option Record) → length rs < 2 ^ 64 → m ≡ cond (looks_up local_dns host 1014) 0xFFFFFFFFFFFFFFFF 0 → c ≡ chosen_of true (take m rs) → prepare4 (given4 (records_of c)) ≡ prepare4 (given4 rs)
  by_list4 m c h em ec = by_first4 (records_of c) (λ z.
      let k : m ≡ 0xFFFFFFFFFFFFFFFF = em ∙ ap (λ (b : Bool). cond b 0xFFFFFFFFFFFFFFFF 0) z in
      ap (λ (l : Option Record). first_four (records_of l)) (ec ∙ ap (λ (n : ℕ). chosen_of true (take n rs)) k ∙ ap (chosen_of true) (take_all 0xFFFFFFFFFFFFFFFF rs (omega arith))) ∙ four_chosen rs)
