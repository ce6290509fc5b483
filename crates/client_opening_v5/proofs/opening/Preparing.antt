-- Preparing over v5: its checks, what is asked for, and what it returns.
use Prim.Native.Nat.{ℕ}
use mathlib.Core.Path.{◌≡◌, ap, sym, ◌∙◌}
use mathlib.Core.Bool.{cond}
use mathlib.Core.List.{List}
use lib.ListN.{replicate}
use Rattle.std.specs.Prelude.{Option, None}
use Rattle.protocol.specs.declared.Record.{Record}
use Rattle.protocol.specs.Answers.{Answer, Refused, Port}
use Rattle.protocol.specs.declared.SocksConfig.{SocksConfig}
use Rattle.protocol.specs.declared.SocksError.{SocksError}
use Rattle.protocol.specs.Host.{strip}
use Rattle.protocol.specs.AddressReading.{Destination, destination_of}
use Rattle.protocol.specs.Opening.{Opening, v5, credentials_if, port_number, opening5}
use Rattle.address_text.specs.declared.ipv4.AddressText.{AddressText}
use Rattle.address_text.specs.ipv4.Answers.{address_text}
use Rattle.lookup.specs.Chosen.{records_of}
use Rattle.client_opening.specs.checks.Checks.{check_by5}
use Rattle.client_opening.proofs.checks.Laws.{checks5}
use Rattle.client_stages.specs.declared.due.Stage.TheVariants.{Failed}
use Rattle.client_session.specs.declared.Prepared.{Prepared}
use Rattle.client_session.specs.Calls.{nothing_kept, prepared_by, prepare5}
use Rattle.client_opening.specs.declared.common.Begun.{Begun}
use Rattle.client_opening.specs.common.Asked.{asked_text, target5}
use Rattle.client_opening.specs.common.Begun.{prepared_with}
use Rattle.client_opening.proofs.common.Targets.{asks5}
use Rattle.client_opening.proofs.common.Accepting.{prepares_refused}

module _ (config : SocksConfig) (host : List ℕ) (read : AddressText) (port : Port) (user password : List ℕ) (chosen : Option Record) where
  abbrev answer : List ℕ → Answer
  answer text = check_by5 config text read.kind port user password (records_of chosen)

  abbrev asking : Destination → Opening
  asking d = v5 (credentials_if config.proxy_auth user password) d (port_number port) config.optimistic

  abbrev wanted : AddressText
  wanted = asked_text read (cond config.local_dns chosen None)

  -- what is returned, by the host without its brackets
  abbrev returned : Prepared
  returned = prepared_by (answer (strip host)) (asking (target5 wanted (strip host)))

  -- what the code has found
  module _ {text : List ℕ} {x : Answer} (te : text ≡ strip host) (xe : x ≡ answer text) where
    stripped : x ≡ answer (strip host)
    stripped = xe ∙ ap answer te

    pub refuses5 : {e : SocksError} {r : Begun} {bytes : List ℕ} → x ≡ Refused e → r ≡ record { answer = Refused e; stage = Failed e; lengths = nothing_kept.lengths } → bytes ≡ replicate 1024 0
        → prepared_with r bytes ≡ returned
    refuses5 e q z = prepares_refused (asking (target5 wanted (strip host))) (sym stripped ∙ e) q z

  -- preparing by what was read is that of the definitions
  pub prepares5 : read ≡ address_text (destination_of (strip host)) → {s b : Prepared} → s ≡ b → b ≡ returned
      → s ≡ prepare5 (record { config = config; host = host; port = port; user = user; password = password; records = records_of chosen })
  unfolding prepare5 opening5
  prepares5 e p q = p ∙ q ∙ (λ i. prepared_by (checks5 host port (records_of chosen) e config user password i) (asking (asks5 (strip host) config.local_dns chosen e i)))
