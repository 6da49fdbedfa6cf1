-- The values are reduced to one.
use Rattle.std.proofs.Common.{[], ◌∷◌, refl, inl}
use Rattle.json_terms.specs.Seen.{json}
use Rattle.child_pool.proofs.Joining.{join_value}
use Rattle.child_pool.proofs.child_summer.ChildSummerSummer.join.Goals as goal

pub returns-in-Ok-clause-value : goal.returns-in-Ok-clause-value
returns-in-Ok-clause-value g c = rw c.of.ensures (join_value g.C.Servers c.args.self.now.language.now c.args.self.now.source.now c.args.self.now.slot c.args.parts.now (json c.in-Ok.value) c.in-Ok.ensures.right)

pub returns-in-Ok-clause-goes : goal.returns-in-Ok-clause-goes
returns-in-Ok-clause-goes g c = record { language = refl; source = refl; slot = c.in-Ok.ensures.talks (c.args.self.now.source.now ∷ []) (inl refl) }

pub returns-in-Err-clause-cause : goal.returns-in-Err-clause-cause
returns-in-Err-clause-cause g c = record { language = refl; source = refl; slot = c.in-Err.ensures.cause (c.args.self.now.source.now ∷ []) (inl refl); given_up = c.in-Err.ensures.stage }
