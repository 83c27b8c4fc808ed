use Rattle.runs.proofs.Reports.{reports_right, floors_low}
use Rattle.runs.proofs.Courses.{courses_prove}
use Rattle.runs.proofs.Runs.{runs_right}
use Rattle.runs.proofs.runs_stand.Goals as goal

pub returns : goal.returns
returns c = record { right = reports_right; floors = floors_low; courses = courses_prove; runs = runs_right }
