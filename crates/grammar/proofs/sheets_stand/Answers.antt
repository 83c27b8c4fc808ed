use Rattle.grammar.proofs.Forth.{reads_states, reads_one, written_reads}
use Rattle.grammar.proofs.Back.{states_reads}
use Rattle.grammar.proofs.sheets_stand.Goals as goal

pub returns : goal.returns
returns c = record { read = reads_states; stated = states_reads; one = reads_one; some = written_reads }
