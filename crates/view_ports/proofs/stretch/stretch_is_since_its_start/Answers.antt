use Rattle.std.specs.Prelude.{IsTrue}
use Rattle.view_ports.proofs.Moments.{at_end, since}
use Rattle.view_ports.proofs.stretch.stretch_is_since_its_start.Goals as goal

pub returns : goal.returns
returns c = record {
  since = λ test old new leaves image is. since (λ i. IsTrue (test i)) old new leaves image is;
  end = λ test old new leaves image is. at_end (λ i. IsTrue (test i)) old new leaves image is;
}
