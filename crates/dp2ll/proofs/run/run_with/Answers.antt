use Rattle.std.proofs.Common.{rules}
use Rattle.dp2ll.proofs.Sentences.{sentences_of}
use Rattle.dp2ll.proofs.run.run_with.Goals as goal

-- the sentences follow from the record
pub returns-clause-sentences : goal.returns-clause-sentences
returns-clause-sentences g c = sentences_of c.early_fault_stays.ensures c.end_ends_input.ensures c.law_fault_refuses.ensures _ (search rules)
