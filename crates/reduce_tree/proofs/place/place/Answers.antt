use Rattle.std.proofs.Common.{◌≡◌, ◌∙◌, Some, ap, length, arith, refl}
use Rattle.tree_laws.specs.Nodes.{spelled_node}
use Rattle.tree_laws.proofs.SummerTrees.{has_stays}
use Rattle.reduce_tree.specs.Calls.{places, GoOn}
use Rattle.reduce_tree.proofs.Calls.{Laws, extends_on, known_on, told_at, ran_err, goes_put, goes_summer, fails_put, summed_fails, on_err}
use Rattle.reduce_tree.proofs.Puts.{leaf_long}
use Rattle.reduce_tree.proofs.Sound.{sound_err, summed_sound}
use Rattle.std.proofs.lemmas.Result.{err_from_is_err_and}
use Rattle.reduce_tree.proofs.Pieces.{pieces_one, were_none, were_tried, on_match, pieces_none}
use Rattle.tree_laws.specs.declared.tree.Fill.TheVariants.{Below}
use Rattle.tree_laws.specs.declared.tree.TreeFault.TheVariants as tree_fault
use Rattle.reduce_tree.proofs.Given.{put_given}
use Rattle.reduce_tree.proofs.Had.{knew_err, knew_none, known_none, put_fails, put_goes}
use Rattle.reduce_tree.proofs.place.place.Goals as goal

pub returns-in-Ok-clause-stands : goal.returns-in-Ok-clause-stands
returns-in-Ok-clause-stands g c first level fill items known filled has =
    let laws : Laws g.S.NodeSource g.M.Summer = record { store_steps = g.met.S.NodeSource.are_steps; store_keeps = g.met.S.NodeSource.keeps; store_caused = g.met.S.NodeSource.stays_caused; summer_steps = g.met.M.Summer.are_steps; summer_keeps = g.met.M.Summer.keeps; summer_caused = g.met.M.Summer.stays_caused; summer_asked = g.met.M.Summer.stays_asked; summer_gave = g.met.M.Summer.stays_given } in
    let i = g.M.Unit.Item in
    let m = g.M.Summer in
    let s0 = c.args.store.now in
    let s1 = c.put.new.self in
    let u0 = c.args.summer.now in
    let u1 = c.tell.new.summer in
    let old = places (g.S.NodeSource.nodes s0) in
    let new = places (g.S.NodeSource.nodes s1) in
    let at = c.in-Ok.at in
    let ran : GoOn i g.S.NodeSource m s0 s1 u0 u1 = goes_put g.M.Unit.Item g.S.NodeSource g.M.Summer laws c.args.store.now c.put.new.self c.args.summer.now c.tell.new.summer c.as_slice.result.now c.args.node c.in-Ok.ensures.goes c.in_ok-told.ensures.ran c.in-Ok.ensures.puts c.in-Ok.ensures.gets (c.as_slice.ensures.value ∙ c.in_ok-bytes.ensures.bytes) c.in_ok-bytes.ensures.fits c.requires.most c.in_ok-told.ensures.summed in
    let later = known_on g.M.Unit.Item g.S.NodeSource g.M.Summer laws first s0 s1 u0 u1 known ran in
    let stand : new at ≡ Some c.as_slice.result.now = told_at (g.S.NodeSource.nodes s1) (λ there. there at ≡ Some c.as_slice.result.now) later.there c.in-Ok.ensures.place later.told in
    let bytes : new at ≡ Some (spelled_node i.spelled c.args.node) = stand ∙ ap Some (c.as_slice.ensures.value ∙ c.in_ok-bytes.ensures.bytes) in
    let stays = has_stays i m first old new (extends_on g.M.Unit.Item g.S.NodeSource g.M.Summer laws s0 s1 u0 u1 ran) level c.args.node items has in
    record { node = c.args.node; fits = c.in_ok-bytes.ensures.fits; bytes = bytes; filled = filled; has = stays }

pub returns-in-Ok-clause-child : goal.returns-in-Ok-clause-child
returns-in-Ok-clause-child g c first level items known filled has =
    let laws : Laws g.S.NodeSource g.M.Summer = record { store_steps = g.met.S.NodeSource.are_steps; store_keeps = g.met.S.NodeSource.keeps; store_caused = g.met.S.NodeSource.stays_caused; summer_steps = g.met.M.Summer.are_steps; summer_keeps = g.met.M.Summer.keeps; summer_caused = g.met.M.Summer.stays_caused; summer_asked = g.met.M.Summer.stays_asked; summer_gave = g.met.M.Summer.stays_given } in
    let i = g.M.Unit.Item in
    let m = g.M.Summer in
    let s0 = c.args.store.now in
    let s1 = c.put.new.self in
    let u0 = c.args.summer.now in
    let u1 = c.tell.new.summer in
    let old = places (g.S.NodeSource.nodes s0) in
    let new = places (g.S.NodeSource.nodes s1) in
    let at = c.in-Ok.at in
    let ran : GoOn i g.S.NodeSource m s0 s1 u0 u1 = goes_put g.M.Unit.Item g.S.NodeSource g.M.Summer laws c.args.store.now c.put.new.self c.args.summer.now c.tell.new.summer c.as_slice.result.now c.args.node c.in-Ok.ensures.goes c.in_ok-told.ensures.ran c.in-Ok.ensures.puts c.in-Ok.ensures.gets (c.as_slice.ensures.value ∙ c.in_ok-bytes.ensures.bytes) c.in_ok-bytes.ensures.fits c.requires.most c.in_ok-told.ensures.summed in
    let later = known_on g.M.Unit.Item g.S.NodeSource g.M.Summer laws first s0 s1 u0 u1 known ran in
    let stand : new at ≡ Some c.as_slice.result.now = told_at (g.S.NodeSource.nodes s1) (λ there. there at ≡ Some c.as_slice.result.now) later.there c.in-Ok.ensures.place later.told in
    let bytes : new at ≡ Some (spelled_node i.spelled c.args.node) = stand ∙ ap Some (c.as_slice.ensures.value ∙ c.in_ok-bytes.ensures.bytes) in
    let stays = has_stays i m first old new (extends_on g.M.Unit.Item g.S.NodeSource g.M.Summer laws s0 s1 u0 u1 ran) level c.args.node items has in
    let told = c.in_ok-told.ensures.tells first old level items known.goes c.in_ok-bytes.ensures.fits has in
    record {
      stands = record { node = c.args.node; fits = c.in_ok-bytes.ensures.fits; bytes = bytes; filled = filled; has = stays };
      count = told.counted;
      front = told.front;
      last = told.ended;
      sum = told.summed;
    }

pub returns-in-Ok-clause-ran : goal.returns-in-Ok-clause-ran
returns-in-Ok-clause-ran g c =
    let laws : Laws g.S.NodeSource g.M.Summer = record { store_steps = g.met.S.NodeSource.are_steps; store_keeps = g.met.S.NodeSource.keeps; store_caused = g.met.S.NodeSource.stays_caused; summer_steps = g.met.M.Summer.are_steps; summer_keeps = g.met.M.Summer.keeps; summer_caused = g.met.M.Summer.stays_caused; summer_asked = g.met.M.Summer.stays_asked; summer_gave = g.met.M.Summer.stays_given } in
    goes_put g.M.Unit.Item g.S.NodeSource g.M.Summer laws c.args.store.now c.put.new.self c.args.summer.now c.tell.new.summer c.as_slice.result.now c.args.node c.in-Ok.ensures.goes c.in_ok-told.ensures.ran c.in-Ok.ensures.puts c.in-Ok.ensures.gets (c.as_slice.ensures.value ∙ c.in_ok-bytes.ensures.bytes) c.in_ok-bytes.ensures.fits c.requires.most c.in_ok-told.ensures.summed

pub returns-in-Ok-clause-leaf : goal.returns-in-Ok-clause-leaf
returns-in-Ok-clause-leaf g c =
    let long = ap length (c.as_slice.ensures.value ∙ c.in_ok-bytes.ensures.bytes) in
    record {
      size = omega (arith, long, c.in-Ok.ensures.size, leaf_long g.M.Unit.Item.spelled c.args.node);
      usable = λ some. c.in_ok-told.ensures.usable some;
    }

pub returns-in_err-told-clause-sound : goal.returns-in_err-told-clause-sound
returns-in_err-told-clause-sound g c =
    let p = err_from_is_err_and c.from_residual.result c.from_residual.ensures.1 in
    sound_err c.from_residual.result c.in_err-told.field-0.0 p.0 p.2 p.1 (summed_sound (Unit {0}) g.M.Summer c.args.summer.now c.tell.new.summer _ c.in_err-told.ensures.ran)

pub returns-in-Ok-clause-pieces : goal.returns-in-Ok-clause-pieces
returns-in-Ok-clause-pieces g c first level fill items among known filled has all =
    let laws : Laws g.S.NodeSource g.M.Summer = record { store_steps = g.met.S.NodeSource.are_steps; store_keeps = g.met.S.NodeSource.keeps; store_caused = g.met.S.NodeSource.stays_caused; summer_steps = g.met.M.Summer.are_steps; summer_keeps = g.met.M.Summer.keeps; summer_caused = g.met.M.Summer.stays_caused; summer_asked = g.met.M.Summer.stays_asked; summer_gave = g.met.M.Summer.stays_given } in
    let i = g.M.Unit.Item in
    let m = g.M.Summer in
    let s0 = c.args.store.now in
    let s1 = c.put.new.self in
    let u0 = c.args.summer.now in
    let u1 = c.tell.new.summer in
    let old = places (g.S.NodeSource.nodes s0) in
    let new = places (g.S.NodeSource.nodes s1) in
    let at = c.in-Ok.at in
    let ran : GoOn i g.S.NodeSource m s0 s1 u0 u1 = goes_put g.M.Unit.Item g.S.NodeSource g.M.Summer laws c.args.store.now c.put.new.self c.args.summer.now c.tell.new.summer c.as_slice.result.now c.args.node c.in-Ok.ensures.goes c.in_ok-told.ensures.ran c.in-Ok.ensures.puts c.in-Ok.ensures.gets (c.as_slice.ensures.value ∙ c.in_ok-bytes.ensures.bytes) c.in_ok-bytes.ensures.fits c.requires.most c.in_ok-told.ensures.summed in
    let later = known_on g.M.Unit.Item g.S.NodeSource g.M.Summer laws first s0 s1 u0 u1 known ran in
    let stand : new at ≡ Some c.as_slice.result.now = told_at (g.S.NodeSource.nodes s1) (λ there. there at ≡ Some c.as_slice.result.now) later.there c.in-Ok.ensures.place later.told in
    let bytes : new at ≡ Some (spelled_node i.spelled c.args.node) = stand ∙ ap Some (c.as_slice.ensures.value ∙ c.in_ok-bytes.ensures.bytes) in
    let stays = has_stays i m first old new (extends_on g.M.Unit.Item g.S.NodeSource g.M.Summer laws s0 s1 u0 u1 ran) level c.args.node items has in
    pieces_one i m first among new fill c.as_slice.result.now (g.S.NodeSource.puts s0) (g.S.NodeSource.puts s1) c.in-Ok.ensures.puts
    (record { level = level; at = at; own = items; node = record { node = c.args.node; fits = c.in_ok-bytes.ensures.fits; bytes = bytes; filled = filled; has = stays }; stand = stand; items = all })

pub returns-in_err-told-clause-ran : goal.returns-in_err-told-clause-ran
returns-in_err-told-clause-ran g c =
    let laws : Laws g.S.NodeSource g.M.Summer = record { store_steps = g.met.S.NodeSource.are_steps; store_keeps = g.met.S.NodeSource.keeps; store_caused = g.met.S.NodeSource.stays_caused; summer_steps = g.met.M.Summer.are_steps; summer_keeps = g.met.M.Summer.keeps; summer_caused = g.met.M.Summer.stays_caused; summer_asked = g.met.M.Summer.stays_asked; summer_gave = g.met.M.Summer.stays_given } in
    let p = err_from_is_err_and c.from_residual.result c.from_residual.ensures.1 in
    ran_err g.M.Unit.Item g.S.NodeSource g.M.Summer laws _ _ _ _ c.from_residual.result c.in_err-told.field-0.0 p.0 p.2 p.1 (summed_fails g.M.Unit.Item g.S.NodeSource g.M.Summer laws (Unit {0}) c.args.store.now c.args.summer.now c.tell.new.summer _ c.in_err-told.ensures.ran)

pub returns-in_err-bytes-clause-ran : goal.returns-in_err-bytes-clause-ran
returns-in_err-bytes-clause-ran g c =
    let laws : Laws g.S.NodeSource g.M.Summer = record { store_steps = g.met.S.NodeSource.are_steps; store_keeps = g.met.S.NodeSource.keeps; store_caused = g.met.S.NodeSource.stays_caused; summer_steps = g.met.M.Summer.are_steps; summer_keeps = g.met.M.Summer.keeps; summer_caused = g.met.M.Summer.stays_caused; summer_asked = g.met.M.Summer.stays_asked; summer_gave = g.met.M.Summer.stays_given } in
    let p = err_from_is_err_and c.from_residual-in_err-bytes.result c.from_residual-in_err-bytes.ensures.1 in
    ran_err g.M.Unit.Item g.S.NodeSource g.M.Summer laws _ _ _ _ c.from_residual-in_err-bytes.result tree_fault.NoMemory p.0 p.2 p.1 (goes_summer g.M.Unit.Item g.S.NodeSource g.M.Summer laws c.args.store.now c.args.summer.now c.tell.new.summer c.in_ok-told.ensures.ran)

pub returns-clause-ran : goal.returns-clause-ran
returns-clause-ran g c =
    let laws : Laws g.S.NodeSource g.M.Summer = record { store_steps = g.met.S.NodeSource.are_steps; store_keeps = g.met.S.NodeSource.keeps; store_caused = g.met.S.NodeSource.stays_caused; summer_steps = g.met.M.Summer.are_steps; summer_keeps = g.met.M.Summer.keeps; summer_caused = g.met.M.Summer.stays_caused; summer_asked = g.met.M.Summer.stays_asked; summer_gave = g.met.M.Summer.stays_given } in
    fails_put g.M.Unit.Item g.S.NodeSource g.M.Summer laws c.args.store.now c.put.new.self c.args.summer.now c.tell.new.summer _ c.as_slice.result.now c.args.node c.in-Err.ensures.cause c.in_ok-told.ensures.ran c.in-Err.ensures.puts c.in-Err.ensures.gets (c.as_slice.ensures.value ∙ c.in_ok-bytes.ensures.bytes) c.in_ok-bytes.ensures.fits c.requires.most c.in_ok-told.ensures.summed

pub returns-in_err-told-clause-spent : goal.returns-in_err-told-clause-spent
returns-in_err-told-clause-spent g c =
    on_err c.from_residual.result _ (record { steps = omega arith; puts = omega arith })

pub returns-in_err-bytes-clause-spent : goal.returns-in_err-bytes-clause-spent
returns-in_err-bytes-clause-spent g c =
    on_err c.from_residual-in_err-bytes.result _ (record { steps = omega arith; puts = omega arith })

pub returns-clause-spent : goal.returns-clause-spent
returns-clause-spent g c =
    let more = ap length c.in-Err.ensures.puts in
    record { steps = omega (arith, c.tick.ensures); puts = omega (arith, more, c.tick.ensures) }

pub returns-in_err-told-clause-pieces : goal.returns-in_err-told-clause-pieces
returns-in_err-told-clause-pieces g c first level fill items among known filled has all =
    let laws : Laws g.S.NodeSource g.M.Summer = record { store_steps = g.met.S.NodeSource.are_steps; store_keeps = g.met.S.NodeSource.keeps; store_caused = g.met.S.NodeSource.stays_caused; summer_steps = g.met.M.Summer.are_steps; summer_keeps = g.met.M.Summer.keeps; summer_caused = g.met.M.Summer.stays_caused; summer_asked = g.met.M.Summer.stays_asked; summer_gave = g.met.M.Summer.stays_given } in
    let i = g.M.Unit.Item in let s = g.S.NodeSource in let m = g.M.Summer in let s0 = c.args.store.now in let u0 = c.args.summer.now in
    let p = err_from_is_err_and c.from_residual.result c.from_residual.ensures.1 in
    let failed = summed_fails i s m laws (Unit {0}) s0 u0 c.tell.new.summer _ c.in_err-told.ensures.ran in
    on_match c.from_residual.result _ _ _ p.0 p.2 p.1 (were_none i s m laws first among s0 s0 u0 c.tell.new.summer c.in_err-told.field-0.0 failed refl)

pub returns-in_err-bytes-clause-pieces : goal.returns-in_err-bytes-clause-pieces
returns-in_err-bytes-clause-pieces g c first level fill items among known filled has all =
    let p = err_from_is_err_and c.from_residual-in_err-bytes.result c.from_residual-in_err-bytes.ensures.1 in
    on_match c.from_residual-in_err-bytes.result _ _ tree_fault.NoMemory p.0 p.2 p.1 (pieces_none g.M.Unit.Item g.M.Summer first among (places (g.S.NodeSource.nodes c.args.store.now)) Below (g.S.NodeSource.puts c.args.store.now) (g.S.NodeSource.puts c.args.store.now) refl)

pub returns-clause-pieces : goal.returns-clause-pieces
returns-clause-pieces g c first level fill items among known filled has all =
    let laws : Laws g.S.NodeSource g.M.Summer = record { store_steps = g.met.S.NodeSource.are_steps; store_keeps = g.met.S.NodeSource.keeps; store_caused = g.met.S.NodeSource.stays_caused; summer_steps = g.met.M.Summer.are_steps; summer_keeps = g.met.M.Summer.keeps; summer_caused = g.met.M.Summer.stays_caused; summer_asked = g.met.M.Summer.stays_asked; summer_gave = g.met.M.Summer.stays_given } in
    let is = c.as_slice.ensures.value ∙ c.in_ok-bytes.ensures.bytes in
    were_tried g.M.Unit.Item g.S.NodeSource g.M.Summer laws first among c.args.store.now c.put.new.self _ c.as_slice.result.now c.in-Err.ensures.cause c.in-Err.ensures.puts c.in-Err.ensures.gets
    (record { level = level; fill = fill; own = items; node = c.args.node; fits = c.in_ok-bytes.ensures.fits; bytes_are = is; filled = filled; has = has; items = all })

pub returns-in-Ok-clause-given : goal.returns-in-Ok-clause-given
returns-in-Ok-clause-given g c first tree pieces level under kind large filled given =
    let laws : Laws g.S.NodeSource g.M.Summer = record { store_steps = g.met.S.NodeSource.are_steps; store_keeps = g.met.S.NodeSource.keeps; store_caused = g.met.S.NodeSource.stays_caused; summer_steps = g.met.M.Summer.are_steps; summer_keeps = g.met.M.Summer.keeps; summer_caused = g.met.M.Summer.stays_caused; summer_asked = g.met.M.Summer.stays_asked; summer_gave = g.met.M.Summer.stays_given } in
    let i = g.M.Unit.Item in let s = g.S.NodeSource in let m = g.M.Summer in let s0 = c.args.store.now in let u0 = c.args.summer.now in
    let s1 = c.put.new.self in let u1 = c.tell.new.summer in
    let spells = c.as_slice.ensures.value ∙ c.in_ok-bytes.ensures.bytes in
    let ran : GoOn i s m s0 s1 u0 u1 = goes_put i s m laws s0 s1 u0 u1 c.as_slice.result.now c.args.node c.in-Ok.ensures.goes c.in_ok-told.ensures.ran c.in-Ok.ensures.puts c.in-Ok.ensures.gets spells c.in_ok-bytes.ensures.fits c.requires.most c.in_ok-told.ensures.summed in
    put_given i s m laws first tree pieces s0 s1 u0 u1 under ran c.as_slice.result.now c.in-Ok.ensures.puts c.args.node spells c.in_ok-bytes.ensures.fits c.in_ok-told.ensures.summed level _ _ c.in-Ok.ensures.place c.in_ok-told.ensures.count kind filled large given

pub returns-in_err-told-clause-sums : goal.returns-in_err-told-clause-sums
returns-in_err-told-clause-sums g c first begun knows =
    let p = err_from_is_err_and c.from_residual.result c.from_residual.ensures.1 in
    knew_err g.M.Unit.Item g.S.NodeSource g.M.Summer first begun _ _ _ c.from_residual.result c.in_err-told.field-0.0 p.0 p.2 p.1 (knew_none g.M.Unit.Item g.S.NodeSource g.M.Summer first begun c.tell.new.summer c.args.store.now c.args.store.now c.in_err-told.field-0.0 refl)

pub returns-in_err-bytes-clause-sums : goal.returns-in_err-bytes-clause-sums
returns-in_err-bytes-clause-sums g c first begun knows =
    let p = err_from_is_err_and c.from_residual-in_err-bytes.result c.from_residual-in_err-bytes.ensures.1 in
    knew_err g.M.Unit.Item g.S.NodeSource g.M.Summer first begun _ _ _ c.from_residual-in_err-bytes.result tree_fault.NoMemory p.0 p.2 p.1 (known_none g.M.Unit.Item g.S.NodeSource g.M.Summer first begun c.tell.new.summer c.args.store.now c.args.store.now refl)

pub returns-in-Ok-clause-sums : goal.returns-in-Ok-clause-sums
returns-in-Ok-clause-sums g c first begun knows =
    let laws : Laws g.S.NodeSource g.M.Summer = record { store_steps = g.met.S.NodeSource.are_steps; store_keeps = g.met.S.NodeSource.keeps; store_caused = g.met.S.NodeSource.stays_caused; summer_steps = g.met.M.Summer.are_steps; summer_keeps = g.met.M.Summer.keeps; summer_caused = g.met.M.Summer.stays_caused; summer_asked = g.met.M.Summer.stays_asked; summer_gave = g.met.M.Summer.stays_given } in
    let i = g.M.Unit.Item in let s = g.S.NodeSource in let m = g.M.Summer in let s0 = c.args.store.now in let u0 = c.args.summer.now in
    let s1 = c.put.new.self in let u1 = c.tell.new.summer in
    let spells = c.as_slice.ensures.value ∙ c.in_ok-bytes.ensures.bytes in
    let ran : GoOn i s m s0 s1 u0 u1 = goes_put i s m laws s0 s1 u0 u1 c.as_slice.result.now c.args.node c.in-Ok.ensures.goes c.in_ok-told.ensures.ran c.in-Ok.ensures.puts c.in-Ok.ensures.gets spells c.in_ok-bytes.ensures.fits c.requires.most c.in_ok-told.ensures.summed in
    put_goes i s m laws first begun s0 s1 u0 u1 ran c.args.node c.as_slice.result.now c.in-Ok.ensures.puts spells c.in_ok-bytes.ensures.fits knows

pub returns-clause-sums : goal.returns-clause-sums
returns-clause-sums g c first begun knows =
    let laws : Laws g.S.NodeSource g.M.Summer = record { store_steps = g.met.S.NodeSource.are_steps; store_keeps = g.met.S.NodeSource.keeps; store_caused = g.met.S.NodeSource.stays_caused; summer_steps = g.met.M.Summer.are_steps; summer_keeps = g.met.M.Summer.keeps; summer_caused = g.met.M.Summer.stays_caused; summer_asked = g.met.M.Summer.stays_asked; summer_gave = g.met.M.Summer.stays_given } in
    let i = g.M.Unit.Item in let s = g.S.NodeSource in let m = g.M.Summer in let s0 = c.args.store.now in let u0 = c.args.summer.now in
    let s1 = c.put.new.self in let u1 = c.tell.new.summer in
    let spells = c.as_slice.ensures.value ∙ c.in_ok-bytes.ensures.bytes in
    put_fails i s m laws first begun s0 s1 u0 u1 c.in-Err.fault c.in-Err.ensures.cause c.in_ok-told.ensures.ran c.in-Err.ensures.gets c.args.node c.as_slice.result.now c.in-Err.ensures.puts spells c.in_ok-bytes.ensures.fits knows
