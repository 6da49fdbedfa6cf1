-- A run over lines, seen in other states: where each step of it is one there.
use Rattle.std.specs.Prelude.{ℕ, List, [], ◌∷◌}
use Rattle.std.proofs.Common.{refl, sym, subst}
use Rattle.view_ports.specs.declared.run_end.RunEnd.{RunEnd}
use Rattle.view_ports.specs.Exchanges.{Exchange, LeadsTo}
use Rattle.view_ports.specs.Runs.{Run}

module _ {A W : Type 0} {step : A → Exchange → A → Type 0} {other : W → Exchange → W → Type 0} (Sees : A → W → Type 0)
    (sees : (before after : A) (w : W) (e : Exchange) → Sees before w → step before e after → (w' : W) × other w e w' × Sees after w') where
  pub LeadsTo-seen : (before after : A) (w : W) (es : List Exchange) → Sees before w → LeadsTo step before es after → (w' : W) × LeadsTo other w es w' × Sees after w'
  LeadsTo-seen before after w [] seen leads = (w, refl, subst (λ (a : A). Sees a w) (sym leads) seen)
  LeadsTo-seen before after w (e ∷ es) seen leads =
      let next = sees before leads.0 w e seen leads.1 in
      let last = LeadsTo-seen leads.0 after next.0 es next.2 leads.2 in
      (last.0, (next.0, next.1, last.1), last.2)

  pub Run-seen : {Ended : Type 0} (before after : A) (w : W) (bytes gained : List ℕ) (end : RunEnd) → Sees before w → Run step Ended before bytes gained end after
      → (w' : W) × Run other Ended w bytes gained end w' × Sees after w'
  Run-seen before after w bytes gained end seen run =
      let last = LeadsTo-seen before after w run.exchanges seen run.leads in
      (last.0, (record { exchanges = run.exchanges; lines = run.lines; rest = run.rest; cut = run.cut; answered = run.answered; leads = last.1; written = run.written }), last.2)

-- what each step keeps, a run keeps
pub LeadsTo-kept : {A : Type 0} {step : A → Exchange → A → Type 0} (Holds : A → Type 0) (keeps : (before after : A) (e : Exchange) → Holds before → step before e after → Holds after)
    (before after : A) (es : List Exchange) → Holds before → LeadsTo step before es after → Holds after
LeadsTo-kept Holds keeps before after [] holds leads = subst Holds (sym leads) holds
LeadsTo-kept Holds keeps before after (e ∷ es) holds leads = LeadsTo-kept Holds keeps leads.0 after es (keeps before leads.0 e holds leads.1) leads.2
