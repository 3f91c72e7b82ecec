use Rattle.std.proofs.Common.{rules, arith}
use Rattle.std.proofs.lemmas.Grind.{common_steps}
use Rattle.reading.proofs.Rest.{read_fronts}
use Rattle.reading.proofs.read_mesh.Goals as goal

pub returns-clause-read : goal.returns-clause-read
returns-clause-read c =
    let k = c.read_within.auto in
    let n = c.read_within.new in
    read_fronts _ n.coords _ n.layers _ n.nodes _ n.ends _ n.kinds _ n.families _ _ _ _ _
    k.coords k.layers k.nodes k.ends (search rules) (search rules) c.read_within.result c.read_within.ensures.within _ _ _ _ _ _
    (grind (arith, common_steps)) (grind (arith, common_steps)) (grind (arith, common_steps)) c.read_within.ensures.read
