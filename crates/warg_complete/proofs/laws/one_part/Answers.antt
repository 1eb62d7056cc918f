use Rattle.warg_complete.proofs.PartLaws.{one-part}
use Rattle.warg_complete.proofs.laws.one_part.Goals as goal

pub returns : goal.returns
returns g c = one-part g.L.Link.Steps (record {
  asked = c.proving_exchanges_are_asked.ensures.asked;
  proved = c.proving_replies_are_taken.ensures.proved;
  downloaded = c.downloading_replies_are_taken.ensures.downloaded;
  shape = c.one_shape.ensures;
})
