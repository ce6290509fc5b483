-- What the checks' tests tell: a kind of the text that it stands for, a chosen record of the records; and what the parts of a check come to.
use mathlib.Core.Path.{◌≡◌, refl, ap, sym, ◌∙◌}
use mathlib.Core.Bool.{Bool, true, false, ◌&&◌, ◌||◌}
use mathlib.Core.List.{List, [], ◌∷◌}
use Prim.Native.Nat.{ℕ, suc}
use native.Mathlib.Omega.{arith}
use lib.ListN.{length}
use lib.Dec.{ltb}
use borrow.Author.Tests.{ne_eqb}
use Rattle.std.specs.Prelude as std
use Rattle.protocol.specs.Answers.{Answer, Port, Accepted, Refused}
use Rattle.protocol.specs.declared.Record.{Record}
use Rattle.protocol.specs.declared.SocksConfig.{SocksConfig}
use Rattle.protocol.specs.declared.SocksError.{SocksError}
use Rattle.protocol.specs.declared.SocksError.TheVariants.{HostTooLong, DnsFailure}
use Rattle.protocol.specs.Host.{strip}
use Rattle.protocol.specs.AddressReading.{Destination, ipv4, ipv6, domain, destination_of}
use Rattle.protocol.specs.Requests.{kind_of}
use Rattle.protocol.specs.Opening.{refuse, is_empty, is_ipv6, is_none, is_announcing, first_record, asked4, check5, check4}
use Rattle.address_text.specs.declared.ipv4.AddressText.{AddressText}
use Rattle.address_text.specs.ipv4.Answers.{address_text}
use Rattle.lookup.specs.Chosen.{records_of}
use Rattle.client_opening.proofs.host.Laws.{read_name}
use Rattle.client_opening.specs.checks.Checks.{check_name, check_by5, check_by4}

ipv6_kind : (d : Destination) → is_ipv6 (kind_of (address_text d).kind []) ≡ is_ipv6 d
ipv6_kind (ipv4 bs) = refl
ipv6_kind (ipv6 bs) = refl
ipv6_kind (domain s) = refl

pub none_found : (c : std.Option Record) → std.is_none c ≡ is_none (first_record (records_of c))
none_found std.None = refl
none_found (std.Some r) = refl

-- ---- what the parts of a check come to

-- an empty host is empty without brackets too
stripped_empty : (h : List ℕ) → (is_empty h || is_empty (strip h)) ≡ is_empty (strip h)
unfolding strip
stripped_empty [] = refl
stripped_empty (a ∷ h) = rw (ne_eqb (suc (length h)) 0 (λ e. absurd (omega arith)))

refused_not : {x : SocksError} → Refused x ≡ Accepted → ⊥
refused_not e = let z : ◌≡◌ {A = ℕ} 0 1 = cc in absurd (omega arith)

-- what is refused of a name is refused whatever is checked later
pub stops : (name : Bool) (text : List ℕ) (most : ℕ) (lookup none : Bool) (later : Answer) {x : SocksError} → check_name name text most lookup none Accepted ≡ Refused x → check_name name text most lookup none later ≡ Refused x
stops name text most lookup none later {x} e = go (name && ltb most (length text)) (lookup && (name && none)) e
  where
    go : (a b : Bool) → refuse a HostTooLong (refuse b DnsFailure Accepted) ≡ Refused x → refuse a HostTooLong (refuse b DnsFailure later) ≡ Refused x
    go true b e = e
    go false true e = e
    go false false e = absurd (refused_not (sym e))

-- ---- the checks of a host by what was read of it are those of protocol

module _ (host : List ℕ) (port : Port) (records : List Record) {read : AddressText} (e : read ≡ address_text (destination_of (strip host))) where
  pub checks5 : (config : SocksConfig) (user password : List ℕ)
      → check_by5 config (strip host) read.kind port user password records ≡ check5 (record { config = config; host = host; port = port; user = user; password = password; records = records })
  unfolding check5
  checks5 config user password = rw (read_name host read e, stripped_empty host)

  pub checks4 : (local_dns : Bool)
      → check_by4 local_dns (strip host) read.kind port records (is_announcing (asked4 local_dns records (destination_of (strip host)))) ≡ check4 (record { local_dns = local_dns; host = host; port = port; records = records })
  unfolding check4
  checks4 local_dns =
      let v : is_ipv6 (kind_of read.kind []) ≡ is_ipv6 (destination_of (strip host)) = ap (λ (t : AddressText). is_ipv6 (kind_of t.kind [])) e ∙ ipv6_kind (destination_of (strip host)) in
      rw (read_name host read e, v, stripped_empty host)
