use Rattle.std.proofs.Common.{◌≡◌, ℕ, ◌-◌, List, length, take, drop, refl, ap, ◌∙◌, rules}
use lib.ListN.{length-replicate}
use Rattle.client_opening_v4.proofs.opening.Preparing as opening
use Rattle.lent_session.proofs.preparing.Laws.{requests_blank, requests_put, put_long, prepares4}
use Rattle.lent_session.proofs.preparing.prepare4.Goals as goal

pub begin-begun-requires : goal.begin-begun-requires
begin-begun-requires c = requests_blank c.clear.new.s c.clear.ensures c.requires

pub keep-requires : goal.keep-requires
keep-requires c =
    let s : List ℕ = c.clear.new.s in
    let bytes : List ℕ = c.begin-begun.new.bytes in
    let same : length bytes ≡ length (take (length s - 282) (drop 282 s)) = search rules in
    let long : length bytes ≡ 1024 = same ∙ ap length (requests_blank s c.clear.ensures c.requires) ∙ length-replicate {A = ℕ} 1024 0 in
    put_long c.clear.new.s c.clear.ensures c.requires c.begin-begun.new.bytes long

pub returns : goal.returns
returns c =
    let a = c.args in
    let bytes : List ℕ = c.begin-begun.new.bytes in
    let s : List ℕ = c.clear.new.s in
    let same : length bytes ≡ length (take (length s - 282) (drop 282 s)) = search rules in
    let long : length bytes ≡ 1024 = same ∙ ap length (requests_blank s c.clear.ensures c.requires) ∙ length-replicate {A = ℕ} 1024 0 in
    prepares4 c.begin-begun.result bytes long a.host.now a.port a.records.now a.local_dns c.found.ensures c.truth.ensures c.port_of.ensures
    (opening.prepares4 c.truth.result a.host.now c.read_host-read.result c.port_of.result c.found.result c.read_host-read.ensures refl c.begin-begun.ensures) c.keep.ensures.value (c.keep.ensures.s_after bytes (requests_put c.clear.new.s c.clear.ensures c.requires bytes))
