-- The lines of a script, one answer more.
use Rattle.std.proofs.Common.{◌≡◌, ◌+◌, ◌<◌, ℕ, List, [], ◌∷◌, ◌++◌, length, take, get_or, refl, sym, ap, ◌∙◌}
use Rattle.std.proofs.lemmas.List.{take_more}
use Rattle.view_ports.specs.declared.script_servers.Answer.{Answer}
use Rattle.view_ports.specs.declared.script_servers.Answer.TheVariants.{Line, Fail}
use Rattle.view_ports.specs.Script.{lines_in}

lines_in-append : (xs ys : List Answer) → lines_in (xs ++ ys) ≡ lines_in xs ++ lines_in ys
lines_in-append [] ys = refl
lines_in-append (Line line ∷ xs) ys = ap (λ lines. line ∷ lines) (lines_in-append xs ys)
lines_in-append (Fail ∷ xs) ys = lines_in-append xs ys

-- one answer more
pub lines_in-more : (xs : List Answer) (i : ℕ) (x : Answer) → i < length xs → x ≡ get_or xs i x → lines_in (take (i + 1) xs) ≡ lines_in (take i xs) ++ lines_in (x ∷ [])
lines_in-more xs i x within is = ap lines_in (take_more xs i x within) ∙ lines_in-append (take i xs) (get_or xs i x ∷ []) ∙ ap (λ y. lines_in (take i xs) ++ lines_in (y ∷ [])) (sym is)
