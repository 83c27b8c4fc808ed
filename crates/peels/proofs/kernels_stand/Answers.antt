use Rattle.peels.proofs.Kernels.{kernel_enough, kernel_needed}
use Rattle.peels.proofs.kernels_stand.Goals as goal

pub returns : goal.returns
returns c = λ g b k p lw h l. (kernel_enough g p b k lw h l, kernel_needed g p k)
