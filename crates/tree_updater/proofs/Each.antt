-- What is told of each value is told of all.
use Rattle.std.specs.Prelude.{Option, Some, None}
use Rattle.view_ports.specs.Disk.{IfTold}

pub told_each : {D X : Type 0} (now : Option D) (P : X → D → Type 0) → ((x : X) → IfTold now (P x)) → IfTold now (λ d. (x : X) → P x d)
told_each None P known = tt
told_each (Some a) P known = λ x. known x
