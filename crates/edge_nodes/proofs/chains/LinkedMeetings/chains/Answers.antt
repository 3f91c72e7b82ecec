use Rattle.std.proofs.Common.{rules}
use Rattle.edge_nodes.proofs.Linking.{subject_some, subject_heads, subject_nexts, cutter_some, cutter_heads, cutter_nexts}
use Rattle.edge_nodes.proofs.chains.LinkedMeetings.chains.Goals as goal

pub invariant_of-by_subject : goal.invariant_of-by_subject
invariant_of-by_subject c = record { some = search (rules, subject_some); heads_are = search (rules, subject_heads); nexts_are = search (rules, subject_nexts) }

pub invariant_of-by_cutter : goal.invariant_of-by_cutter
invariant_of-by_cutter c = record { some = search (rules, cutter_some); heads_are = search (rules, cutter_heads); nexts_are = search (rules, cutter_nexts) }
