-- F-1: an address's text is read back as the address, and equal texts mean equal addresses and ports.
use Prim.Native.Nat.{ℕ, suc, ◌≤◌, ◌<◌}
use native.Mathlib.Omega.{arith}
use mathlib.Core.Path.{◌≡◌, refl, sym, ap, ◌∙◌}
use mathlib.Core.List.{List, [], ◌∷◌, ◌++◌, append_assoc}
use lib.ListN.{length}
use Rattle.address_format.specs.numerals.Digits.{digits_of}
use Rattle.protocol.specs.Bytes.{Bytes, byte}
use Rattle.protocol.specs.Host.{strip}
use Rattle.protocol.specs.AddressText as G
use Rattle.protocol.specs.AddressText.{Number, Dotted, Ipv4}
use Rattle.protocol.specs.AddressReading.{Destination, ipv4, ipv6, domain, destination_of}
use Rattle.protocol.proofs.Destinations.{ipv4_just, ipv6_just}
use Rattle.protocol.proofs.Hosts.{strip_brackets, strip_else}
use Rattle.address_format.specs.groups.Groups.{split_by, groups_of, groups_text}
use Rattle.address_format.specs.endpoint.Text.{host_text, text_of}
use Rattle.address_format.specs.endpoint.ReadBack.{IsAddress, LastColon, ReadBack, Told}
use Rattle.address_format.proofs.endpoint.Digits.{digits_told, digits_free}
use Rattle.address_format.proofs.endpoint.Colons.{one_split}
use Rattle.address_format.proofs.endpoint.Rows.{dotted_row}
use Rattle.address_format.proofs.endpoint.Groups.{ipv6_text}

-- ---- a digit stands first in dotted text

number_begins : {p : List ℕ} {v : ℕ} → Number p v → (s : List ℕ) → byte (p ++ s) 0 ≤ 0x39
number_begins (G.one x) s = let e = x.is in let h = x.small in omega arith
number_begins (G.more {p} {a} n l x m) s = rw (append_assoc p (a ∷ []) s) (number_begins n (a ∷ s))

unbracketed : {n : ℕ} {s vs : List ℕ} → Dotted (suc n) s vs → strip s ≡ s
unbracketed (G.next {p} {s} x y) =
    strip_else (p ++ (0x2E ∷ s))
    (λ m e. let h = number_begins x (0x2E ∷ s) in let k : byte (p ++ (0x2E ∷ s)) 0 ≡ 0x5B = rw e in absurd (omega arith))

-- ---- the address is read back

ipv4_text : (bs : List ℕ) → length bs ≡ 4 → Bytes bs → Ipv4 (split_by 10 0x2E bs) bs
ipv4_text [] l y = absurd (omega arith)
ipv4_text (b ∷ bs) l y = let k : length bs ≡ 3 = omega arith in rw k at (dotted_row b bs y)

host_reads : (d : Destination) → IsAddress d → destination_of (strip (host_text d)) ≡ d
unfolding host_text
host_reads (ipv4 bs) (l, y) = let x = ipv4_text bs l y in rw (unbracketed x) ((ipv4_just (split_by 10 0x2E bs) bs).1 x)
host_reads (ipv6 bs) (l, y) =
    rw (strip_brackets (groups_text (groups_of bs))) ((ipv6_just (groups_text (groups_of bs)) bs).1 (ipv6_text bs l y))
host_reads (domain s) a = absurd a

splits : (d : Destination) (port : ℕ) → port < 65536 → LastColon (text_of d port) (host_text d) (digits_of 10 port)
unfolding text_of
splits d port h = record { splits = refl; last = digits_free port h }

pub read_back : (d : Destination) (port : ℕ) → IsAddress d → port < 65536 → ReadBack d port
read_back d port a h =
    record {
      before = host_text d;
      behind = digits_of 10 port;
      splits = splits d port h;
      reads =
          λ p q l. let e = (one_split (text_of d port) p q (host_text d) (digits_of 10 port) l (splits d port h)).0 in rw e (host_reads d a);
    }

pub told : (d : Destination) (port : ℕ) → IsAddress d → port < 65536 → Told d port
told d port a h e other b k q =
    let (x, y) = one_split (text_of d port) (host_text d) (digits_of 10 port) (host_text e) (digits_of 10 other) (splits d port h) (rw q (splits e other k)) in
    (sym (host_reads d a) ∙ ap (λ (s : List ℕ). destination_of (strip s)) x ∙ host_reads e b, digits_told port other h k y)
