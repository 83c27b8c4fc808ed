use Rattle.forms.proofs.Forms.{has_edges, one_form, one_edges}
use Rattle.forms.proofs.forms_stand.Goals as goal

pub returns : goal.returns
returns c = record { edges = has_edges; form = one_form; one = one_edges }
