use Rattle.std.proofs.Common.{rules}
use Rattle.reading.proofs.Rest.{rest_zeroed}
use Rattle.reading.proofs.read_input.Goals as goal

pub returns-clause-rest : goal.returns-clause-rest
returns-clause-rest c =
    let r = c.read_text-input.ensures in (
      rest_zeroed _ _ _ _ _ (search rules) (search rules) r.same_lists.0 c.clear_rest.ensures.zeroed,
      rest_zeroed _ _ _ _ _ (search rules) (search rules) r.same_lists.1 c.clear_rest-2.ensures.zeroed,
    )
