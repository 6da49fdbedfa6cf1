use Rattle.std.proofs.Common.{◌≡◌, ◌<◌, ℕ, subst, sym, lit<}
use Rattle.std.specs.Prelude.{vec_len}
use Rattle.view_ports.proofs.Results.{IfOk-map}
use Rattle.view_ports.proofs.piece.new_piece.Goals as goal

pub returns : goal.returns
returns c = IfOk-map c.vec.result _ _ (λ piece (is : vec_len piece ≡ 65536). subst (λ (n : ℕ). 0 < n) (sym is) (lit< tt)) c.vec.ensures.len
