use Rattle.proxy_url_route.proofs.fields.Laws.{written_fields}
use Rattle.proxy_url_route.proofs.fields.put_fields.Goals as goal

pub returns : goal.returns
returns c = written_fields c.copy.ensures c.copy-2.ensures c.copy-3.ensures
