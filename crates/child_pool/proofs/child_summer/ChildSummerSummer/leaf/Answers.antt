-- The rows are reduced.
use Rattle.std.proofs.Common.{[], ◌∷◌, refl, inl}
use Rattle.child_pool.proofs.child_summer.ChildSummerSummer.leaf.Goals as goal

pub returns-in-Ok-clause-goes : goal.returns-in-Ok-clause-goes
returns-in-Ok-clause-goes g c = record { language = refl; source = refl; slot = c.in-Ok.ensures.talks (c.args.self.now.source.now ∷ []) (inl refl) }

pub returns-in-Err-clause-cause : goal.returns-in-Err-clause-cause
returns-in-Err-clause-cause g c = record { language = refl; source = refl; slot = c.in-Err.ensures.cause (c.args.self.now.source.now ∷ []) (inl refl); given_up = c.in-Err.ensures.stage }
