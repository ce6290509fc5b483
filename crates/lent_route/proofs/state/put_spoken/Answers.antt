use Rattle.lent_route.proofs.Laws.{spoken_put}
use borrow.Author.Rules.{rules}
use Rattle.lent_route.proofs.state.put_spoken.Goals as goal

pub returns : goal.returns
returns c =
    let a = c.args in (
      spoken_put a.spot a.lengths a.hold.now c.requires.1 c.code_of.ensures c.error_number.ensures c.status_number.ensures c.put_numbers.ensures c.put_code.ensures c.copy.ensures,
      (search rules, search rules),
    )
