-- Preparing over v4: its checks, what is asked for, and what it returns.
use Prim.Native.Nat.{ℕ}
use mathlib.Core.Path.{◌≡◌, refl, ap, sym, ◌∙◌}
use mathlib.Core.Bool.{Bool, true, false, cond}
use mathlib.Core.List.{List, []}
use lib.ListN.{length, replicate}
use Rattle.protocol.specs.declared.AddressKind.{AddressKind}
use Rattle.protocol.specs.declared.AddressKind.TheVariants.{Ipv4, Ipv6, Domain}
use Rattle.std.specs.Prelude.{Option, None}
use Rattle.protocol.specs.declared.Record.{Record}
use Rattle.protocol.specs.Answers.{Answer, Refused, Port}
use Rattle.protocol.specs.declared.SocksError.{SocksError}
use Rattle.protocol.specs.Host.{strip}
use Rattle.protocol.specs.AddressReading.{destination_of}
use Rattle.protocol.specs.Opening.{announces, is_announcing, v4, port_number, opening4}
use Rattle.address_text.specs.declared.ipv4.AddressText.{AddressText}
use Rattle.address_text.specs.ipv4.Answers.{address_text}
use Rattle.lookup.specs.Chosen.{chosen_of, records_of}
use Rattle.client_opening.specs.checks.Checks.{check_by4}
use Rattle.client_opening.proofs.checks.Laws.{checks4}
use Rattle.client_stages.specs.declared.due.Stage.TheVariants.{Failed}
use Rattle.client_session.specs.declared.Prepared.{Prepared}
use Rattle.client_session.specs.Calls.{nothing_kept, prepared_by, prepare4}
use Rattle.client_opening.specs.declared.common.Begun.{Begun}
use Rattle.client_opening.specs.common.Asked.{asked_text, target4_by, target4}
use Rattle.client_opening.specs.common.Begun.{prepared_with}
use Rattle.client_opening.proofs.common.Targets.{asks4}
use Rattle.client_opening.proofs.common.Accepting.{prepares_refused}

-- a name does not announce one, whatever its bytes
nameless : (t : AddressText) (s : List ℕ) → is_announcing (target4 t []) ≡ is_announcing (target4 t s)
nameless t s = go t.kind
  where
    go : (k : AddressKind) → is_announcing (target4_by k t.bytes []) ≡ is_announcing (target4_by k t.bytes s)
    go Ipv4 = refl
    go Ipv6 = refl
    go Domain = refl

-- sixteen address bytes announce none
pub sixteen_silent : (bs : List ℕ) → length bs ≡ 16 → false ≡ announces bs
unfolding announces
sixteen_silent bs l = rw l

module _ (local_dns : Bool) (host : List ℕ) (read : AddressText) (port : Port) (chosen : Option Record) where
  abbrev wanted : AddressText
  wanted = asked_text read (cond local_dns (chosen_of true (records_of chosen)) None)

  abbrev answer : List ℕ → Bool → Answer
  answer text announcing = check_by4 local_dns text read.kind port (records_of chosen) announcing

  -- what is returned, by the host without its brackets
  abbrev returned : Prepared
  returned = prepared_by (answer (strip host) (is_announcing (target4 wanted (strip host)))) (v4 (target4 wanted (strip host)) (port_number port))

  -- what the code has found
  module _ {text : List ℕ} {g : Bool} {t : AddressText} {x : Answer} (te : text ≡ strip host) (ae : t ≡ wanted)
      (ge : g ≡ is_announcing (target4 t [])) (xe : x ≡ answer text g) where
    stripped : x ≡ answer (strip host) (is_announcing (target4 wanted (strip host)))
    stripped =
        let a = ge ∙ nameless t (strip host) ∙ ap (λ (y : AddressText). is_announcing (target4 y (strip host))) ae in
        xe ∙ (λ i. answer (te i) (a i))

    pub refuses4 : {e : SocksError} {r : Begun} {bytes : List ℕ} → x ≡ Refused e → r ≡ record { answer = Refused e; stage = Failed e; lengths = nothing_kept.lengths } → bytes ≡ replicate 1024 0
        → prepared_with r bytes ≡ returned
    refuses4 e q z = prepares_refused (v4 (target4 wanted (strip host)) (port_number port)) (sym stripped ∙ e) q z

  -- preparing by what was read is that of the definitions
  pub prepares4 : read ≡ address_text (destination_of (strip host)) → {s b : Prepared} → s ≡ b → b ≡ returned → s ≡ prepare4 (record { local_dns = local_dns; host = host; port = port; records = records_of chosen })
  unfolding prepare4 opening4
  prepares4 e p q =
      let d = asks4 (strip host) local_dns chosen e in
      p ∙ q ∙ (λ i. prepared_by (((λ j. answer (strip host) (is_announcing (d j))) ∙ checks4 host port (records_of chosen) e local_dns) i) (v4 (d i) (port_number port)))
