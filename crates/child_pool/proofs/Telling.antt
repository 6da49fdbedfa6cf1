-- A stage was answered: how far the session has come, what it has said, and what an honest server's answer tells.
use Rattle.std.proofs.Common.{◌≡◌, ◌<◌, ℕ, zero, suc, List, [], ◌∷◌, ◌++◌, length, get_or, Bool, true, false, Option, Some, MatchBool, refl, sym, ◌∙◌, subst, inl, inr, arith}
use Rattle.json_terms.specs.Json.{is_true}
use Rattle.view_ports.specs.declared.command.Command.{Command}
use Rattle.view_ports.specs.declared.command.Command.TheVariants.{AddFun}
use Rattle.view_ports.specs.Calls.{Call, receive, Session, session, child, is_log, is_yes}
use Rattle.view_ports.specs.Commands.{command}
use Rattle.view_ports.specs.Functions.{Functions}
use Rattle.view_ports.specs.Honest.{AnswersChild, Complains, IsAnswerable, IsHonestLine, Spells}
use Rattle.child_pool.specs.Jobs.{IsAmong}
use Rattle.child_pool.specs.Histories.{HasReceived, IsReceipt, Turn, course}
use Rattle.child_pool.specs.Sessions.{AllCompile}
use Rattle.child_pool.proofs.Replies.{yes_no_complaint}

-- ---- lists of calls

pub among_at : (sources : List (List ℕ)) (i : ℕ) → i < length sources → IsAmong sources (get_or sources i [])
among_at [] i within = absurd (omega arith)
among_at (source ∷ sources) zero within = inl refl
among_at (source ∷ sources) (suc i) within = inr (among_at sources i (omega arith))

turns_some : (said : List Turn) (turn : Turn) → [] ≡ said ++ turn ∷ [] → ⊥
turns_some [] turn e = cc
turns_some (first ∷ said) turn e = cc

-- the last call was added
pub received_last : (P : Option Session → List ℕ → Type 0) (slot : ℕ) (line : List ℕ) (added before now earlier : List Call) (said : List Turn) (turn : Turn)
    → now ≡ added ++ before → now ≡ receive slot (Some line) ∷ earlier → course added ≡ said ++ turn ∷ [] → P (child slot earlier) line → HasReceived P added before
received_last P slot line [] before now earlier said turn is last talked p = absurd (turns_some said turn talked)
received_last P slot line (call ∷ added) before now earlier said turn is last talked p =
    let same : call ∷ (added ++ before) ≡ receive slot (Some line) ∷ earlier = sym is ∙ last in
    let first : receive slot (Some line) ≡ call = cc in
    let others : earlier ≡ added ++ before = cc in
    inl (subst (λ (c : Call). IsReceipt P c (added ++ before)) first (subst (λ (calls : List Call). P (child slot calls) line) others p))

-- ---- honest answers

module _ (functions : List ℕ → Functions) (honest : List ℕ → Type 0) (path : List ℕ) (sources : List (List ℕ)) (prompt : List ℕ) (logs : ℕ) (st : Option Session) (line : List ℕ) where
  -- an honest path's answer
  pub honest_line : st ≡ Some (session path sources (prompt ∷ []) logs true) → AnswersChild functions honest st line → honest path
      → (c : Command) → command prompt ≡ c → IsAnswerable sources c → IsHonestLine (functions path) sources logs c line
  honest_line at answers is_honest c is answerable =
      let here : AnswersChild functions honest (Some (session path sources (prompt ∷ []) logs true)) line = subst (λ (s : Option Session). AnswersChild functions honest s line) at answers in
      subst (λ (asked : Command). IsHonestLine (functions path) sources logs asked line) is (here is_honest refl (subst (IsAnswerable sources) (sym is) answerable))

-- a source whose answer was `true` compiles
compiles_by : (functions : Functions) (source line : List ℕ) (b : Bool) → functions.compiles source ≡ b → MatchBool b (Spells line is_true) (Complains line) → is_yes line ≡ true → functions.compiles source ≡ true
compiles_by functions source line true e h accepted = e
compiles_by functions source line false e h accepted = absurd (yes_no_complaint line accepted h.1)

pub honest_source : (functions : Functions) (sources : List (List ℕ)) (logs : ℕ) (source line : List ℕ) → is_log line ≡ false → is_yes line ≡ true → IsHonestLine functions sources logs (AddFun source) line → functions.compiles source ≡ true
honest_source functions sources logs source line no_log accepted h = elim h [
  | inl log ↦ absurd cc
  | inr answer ↦ compiles_by functions source line (functions.compiles source) refl answer.1 accepted
]

pub AllCompile-more : (functions : Functions) (sources : List (List ℕ)) (source : List ℕ) → AllCompile functions sources → functions.compiles source ≡ true → AllCompile functions (sources ++ source ∷ [])
AllCompile-more functions [] source h e = (e, tt)
AllCompile-more functions (s ∷ sources) source h e = (h.0, AllCompile-more functions sources source h.1 e)
