use mathlib.Core.Path.{◌≡◌, refl, sym, ◌∙◌}
use Prim.Native.Nat.{◌+◌, ◌*◌, ◌≤◌, ◌<◌}
use native.Mathlib.Omega.{arith}
use lib.ListN.{length}
use borrow.Author.Rules.{rules}
use Rattle.address_text.proofs.digits.Runs.{digits_end}
use Rattle.proxy_url_spec.specs.Reading.{port_goes}
use Rattle.proxy_url.proofs.ports.Laws.{goes_fits, digit_goes, digit_stops, port_stops, port_none, port_ends}
use Rattle.proxy_url.proofs.ports.read_port.Goals.{Else-not-port_goes}
use Rattle.proxy_url.proofs.ports.read_port.Goals as goal

-- the value with a digit that may follow
fits : (c : Else-not-port_goes) →
    let l = c.loop-n in
    (c.hex_value-digit.result < 10) × (l.value * 10 + c.hex_value-digit.result ≤ 65535)
fits c = let l = c.loop-n in goes_fits l.value l.n c.hex_value-digit.result (sym c.port_goes.ensures ∙ c.if-not-port_goes.false)

pub loop-n-init : goal.loop-n-init
loop-n-init c = (search rules, refl)

pub port_goes-requires : goal.port_goes-requires
port_goes-requires c = c.loop-n.invariant.0

pub returns-then-not-port_goes : goal.returns-then-not-port_goes
returns-then-not-port_goes c =
    let s = c.args.text.now in
    let l = c.loop-n in
    let h : l.n < length s = search rules in
    port_stops s (digit_stops s l.value l.n h l.invariant.1 c.hex_value-digit.ensures (sym c.port_goes.ensures ∙ c.if-not-port_goes.true)) h

pub overflow_mul-value : goal.overflow_mul-value
overflow_mul-value c = omega (arith, fits c)

pub overflow_add-value : goal.overflow_add-value
overflow_add-value c = omega (arith, fits c)

pub loop-n-preserved : goal.loop-n-preserved
loop-n-preserved c =
    let s = c.args.text.now in
    let l = c.loop-n in
    let h : l.n < length s = search rules in
    ((fits c).1, digit_goes s l.value l.n h l.invariant.1 c.hex_value-digit.ensures (sym c.port_goes.ensures ∙ c.if-not-port_goes.false))

pub returns-then-is_empty : goal.returns-then-is_empty
returns-then-is_empty c = port_none c.args.text.now (search rules)

pub overflow_cast-result : goal.overflow_cast-result
overflow_cast-result c = omega (arith, c.loop-n.invariant.0)

pub returns : goal.returns
returns c =
    let s = c.args.text.now in
    let l = c.loop-n in
    let e : l.n ≡ length s = search rules in
    port_ends s (sym (digits_end port_goes 10 l.value l.n s (omega arith)) ∙ l.invariant.1) e (search rules)
