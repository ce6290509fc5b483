-- What the checks of an accepted opening give, and what preparing returns by what it keeps.
use Prim.Native.Nat.{ℕ, ◌≤◌}
use native.Mathlib.Omega.{arith}
use mathlib.Core.Path.{◌≡◌, refl, ap, sym, ◌∙◌}
use mathlib.Core.Bool.{Bool, true, false, not, ◌&&◌, ◌||◌, true≢false}
use mathlib.Core.List.{List, []}
use lib.ListN.{length, replicate}
use lib.Dec.{ltb}
use borrow.Author.Tests.{ltb-false}
use Rattle.std.proofs.lemmas.Bool.{or_parts}
use Rattle.protocol.specs.Answers.{Answer, Accepted, Refused, Port}
use Rattle.protocol.specs.declared.AddressKind.{AddressKind}
use Rattle.protocol.specs.declared.Record.{Record}
use Rattle.protocol.specs.declared.SocksConfig.{SocksConfig}
use Rattle.protocol.specs.declared.SocksError.{SocksError}
use Rattle.protocol.specs.declared.SocksError.TheVariants.{MissingHost, HostByte, MissingPort, CredentialTooLong, HostTooLong, IpV6, DnsFailure, AnnouncesName}
use Rattle.protocol.specs.Host.{all_allowed}
use Rattle.protocol.specs.Requests.{kind_of}
use Rattle.protocol.specs.Opening.{refuse, is_empty, is_missing, is_name, is_ipv6, is_none, first_record, first_four, Opening, first_reply}
use Rattle.client_stages.specs.declared.due.Lengths.{Lengths}
use Rattle.client_stages.specs.declared.due.Stage.{Stage}
use Rattle.client_stages.specs.declared.due.Stage.TheVariants.{Awaiting, Failed}
use Rattle.client_session.specs.Calls.{kept_by, nothing_kept, fresh, prepared_by}
use Rattle.client_opening.specs.checks.Checks.{check_shared, check_name, check_by5, check_by4}
use Rattle.client_opening.specs.declared.common.Begun.{Begun}
use Rattle.client_opening.specs.common.Begun.{prepared_with}

-- ---- the checks

passed : (b : Bool) (e : SocksError) (later : Answer) → refuse b e later ≡ Accepted → (b ≡ false) × (later ≡ Accepted)
passed true e later p = let y : ◌≡◌ {A = ℕ} 0 1 = cc in absurd (omega arith)
passed false e later p = (refl, p)

passed_shared : (text : List ℕ) (port : Port) (later : Answer) → check_shared text port later ≡ Accepted → later ≡ Accepted
passed_shared text port later e =
    let p₁ = passed (is_empty text) MissingHost _ e in
    let p₂ = passed (not (all_allowed text)) HostByte _ p₁.1 in
    (passed (is_missing port) MissingPort later p₂.1).1

-- a test that does not hold where a condition does
unless : (b c : Bool) → (b && c) ≡ false → b ≡ true → c ≡ false
unless true c p q = p
unless false c p q = absurd (true≢false (sym q))

passed_name : (name : Bool) (text : List ℕ) (most : ℕ) (lookup none : Bool) (later : Answer) → check_name name text most lookup none later ≡ Accepted → name ≡ true → length text ≤ most
passed_name name text most lookup none later e q = ltb-false most (length text) (unless name (ltb most (length text)) (passed (name && ltb most (length text)) HostTooLong (refuse (lookup && (name && none)) DnsFailure later) e).0 q)

module _ (text : List ℕ) (kind : AddressKind) (port : Port) (records : List Record) where
  pub accepted5 : (config : SocksConfig) (user password : List ℕ) → check_by5 config text kind port user password records ≡ Accepted
      → (config.proxy_auth ≡ true → (length user ≤ 255) × (length password ≤ 255)) × (is_name (kind_of kind []) ≡ true → length text ≤ 255)
  accepted5 config user password e =
      let named = check_name (is_name (kind_of kind [])) text 255 config.local_dns (is_none (first_record records)) Accepted in
      let long = ltb 255 (length user) || ltb 255 (length password) in
      let q = passed (config.proxy_auth && long) CredentialTooLong named (passed_shared text port (refuse (config.proxy_auth && long) CredentialTooLong named) e) in (
        λ b. let n = or_parts (ltb 255 (length user)) (ltb 255 (length password)) (unless config.proxy_auth long q.0 b) in
            (ltb-false 255 (length user) n.0, ltb-false 255 (length password) n.1),
        passed_name (is_name (kind_of kind [])) text 255 config.local_dns (is_none (first_record records)) Accepted q.1,
      )

  pub accepted4 : (local_dns announcing : Bool) → check_by4 local_dns text kind port records announcing ≡ Accepted → (is_ipv6 (kind_of kind []) ≡ false) × (is_name (kind_of kind []) ≡ true → length text ≤ 1014)
  accepted4 local_dns announcing e =
      let last = refuse announcing AnnouncesName Accepted in
      let named = check_name (is_name (kind_of kind [])) text 1014 local_dns (is_none (first_four records)) last in
      let q = passed (is_ipv6 (kind_of kind [])) IpV6 named (passed_shared text port (refuse (is_ipv6 (kind_of kind [])) IpV6 named) e) in
      (q.0, passed_name (is_name (kind_of kind [])) text 1014 local_dns (is_none (first_four records)) last q.1)

-- ---- what preparing returns

module _ (o : Opening) {bytes : List ℕ} where
  pub prepares_accepted : {stage : Stage} {l : Lengths} → stage ≡ Awaiting (first_reply o) → record { lengths = l; bytes = bytes } ≡ kept_by o
      → prepared_with (record { answer = Accepted; stage = stage; lengths = l }) bytes ≡ prepared_by Accepted o
  prepares_accepted s k = λ i. record { answer = Accepted; session = fresh (s i) (k i) }

  pub prepares_refused : {x : Answer} {e : SocksError} {r : Begun} → x ≡ Refused e → r ≡ record { answer = Refused e; stage = Failed e; lengths = nothing_kept.lengths } → bytes ≡ replicate 1024 0
      → prepared_with r bytes ≡ prepared_by x o
  prepares_refused p q z = (λ i. prepared_with (q i) (z i)) ∙ ap (λ (y : Answer). prepared_by y o) (sym p)
