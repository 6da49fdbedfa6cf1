use Rattle.std.proofs.Common.{Contains, ◌≡◌, ◌∙◌, Some, ap, length, arith, refl}
use Rattle.tree_laws.specs.Nodes.{spelled_node}
use Rattle.tree_laws.proofs.SummerTrees.{has_stays}
use Rattle.tree_laws.specs.declared.tree.TreeFault.TheVariants as tree_fault
use Rattle.reduce_tree.specs.Calls.{places, GoOn}
use Rattle.reduce_tree.proofs.Calls.{Laws, extends_on, fails_put, goes_put, goes_summer, known_on, ran_err, summed_fails, told_at, told_on}
use Rattle.reduce_tree.proofs.Puts.{leaf_long}
use Rattle.reduce_tree.proofs.Sound.{sound_err, summed_sound}
use Rattle.reduce_tree.proofs.Working.{filled_none, filled_one, refused_sure}
use Rattle.std.proofs.lemmas.Result.{err_from_is_err_and}
use Rattle.reduce_tree.proofs.Had.{gave_goes, had_none, had_one}
use Rattle.reduce_tree.proofs.put.put_node.Goals as goal

pub returns-in-Ok-clause-stands : goal.returns-in-Ok-clause-stands
returns-in-Ok-clause-stands g c first level fill items known filled has =
    let laws : Laws g.S.NodeSource g.M.Summer = record { store_steps = g.met.S.NodeSource.are_steps; store_keeps = g.met.S.NodeSource.keeps; store_caused = g.met.S.NodeSource.stays_caused; summer_steps = g.met.M.Summer.are_steps; summer_keeps = g.met.M.Summer.keeps; summer_caused = g.met.M.Summer.stays_caused; summer_asked = g.met.M.Summer.stays_asked; summer_gave = g.met.M.Summer.stays_given } in
    let i = g.M.Unit.Item in
    let m = g.M.Summer in
    let s0 = c.args.store.now in
    let s1 = c.put.new.self in
    let u0 = c.args.summer.now in
    let u1 = c.tell.new.summer in
    let old = places (g.S.NodeSource.nodes s0) in
    let new = places (g.S.NodeSource.nodes s1) in
    let at = c.in-Ok.at in
    let ran : GoOn i g.S.NodeSource m s0 s1 u0 u1 = goes_put i g.S.NodeSource m laws s0 s1 u0 u1 c.as_slice.result.now c.args.node c.in-Ok.ensures.goes c.in_ok-told.ensures.ran c.in-Ok.ensures.puts c.in-Ok.ensures.gets (c.as_slice.ensures.value ∙ c.in_ok-bytes.ensures.bytes) c.in_ok-bytes.ensures.fits c.requires.most c.in_ok-told.ensures.summed in
    let later = known_on g.M.Unit.Item g.S.NodeSource g.M.Summer laws first s0 s1 u0 u1 known ran in
    let stand : new at ≡ Some c.as_slice.result.now = told_at (g.S.NodeSource.nodes s1) (λ there. there at ≡ Some c.as_slice.result.now) later.there c.in-Ok.ensures.place later.told in
    let bytes : new at ≡ Some (spelled_node i.spelled c.args.node) = stand ∙ ap Some (c.as_slice.ensures.value ∙ c.in_ok-bytes.ensures.bytes) in
    let stays = has_stays i m first old new (extends_on g.M.Unit.Item g.S.NodeSource g.M.Summer laws s0 s1 u0 u1 ran) level c.args.node items has in
    record { node = c.args.node; fits = c.in_ok-bytes.ensures.fits; bytes = bytes; filled = filled; has = stays }

pub returns-in-Ok-clause-child : goal.returns-in-Ok-clause-child
returns-in-Ok-clause-child g c first level items known filled has =
    let laws : Laws g.S.NodeSource g.M.Summer = record { store_steps = g.met.S.NodeSource.are_steps; store_keeps = g.met.S.NodeSource.keeps; store_caused = g.met.S.NodeSource.stays_caused; summer_steps = g.met.M.Summer.are_steps; summer_keeps = g.met.M.Summer.keeps; summer_caused = g.met.M.Summer.stays_caused; summer_asked = g.met.M.Summer.stays_asked; summer_gave = g.met.M.Summer.stays_given } in
    let i = g.M.Unit.Item in
    let m = g.M.Summer in
    let s0 = c.args.store.now in
    let s1 = c.put.new.self in
    let u0 = c.args.summer.now in
    let u1 = c.tell.new.summer in
    let old = places (g.S.NodeSource.nodes s0) in
    let new = places (g.S.NodeSource.nodes s1) in
    let at = c.in-Ok.at in
    let ran : GoOn i g.S.NodeSource m s0 s1 u0 u1 = goes_put i g.S.NodeSource m laws s0 s1 u0 u1 c.as_slice.result.now c.args.node c.in-Ok.ensures.goes c.in_ok-told.ensures.ran c.in-Ok.ensures.puts c.in-Ok.ensures.gets (c.as_slice.ensures.value ∙ c.in_ok-bytes.ensures.bytes) c.in_ok-bytes.ensures.fits c.requires.most c.in_ok-told.ensures.summed in
    let later = known_on g.M.Unit.Item g.S.NodeSource g.M.Summer laws first s0 s1 u0 u1 known ran in
    let stand : new at ≡ Some c.as_slice.result.now = told_at (g.S.NodeSource.nodes s1) (λ there. there at ≡ Some c.as_slice.result.now) later.there c.in-Ok.ensures.place later.told in
    let bytes : new at ≡ Some (spelled_node i.spelled c.args.node) = stand ∙ ap Some (c.as_slice.ensures.value ∙ c.in_ok-bytes.ensures.bytes) in
    let stays = has_stays i m first old new (extends_on g.M.Unit.Item g.S.NodeSource g.M.Summer laws s0 s1 u0 u1 ran) level c.args.node items has in
    let told = c.in_ok-told.ensures.tells first old level items known.goes c.in_ok-bytes.ensures.fits has in
    record {
      stands = record { node = c.args.node; fits = c.in_ok-bytes.ensures.fits; bytes = bytes; filled = filled; has = stays };
      count = told.counted;
      front = told.front;
      last = told.ended;
      sum = told.summed;
    }

pub returns-in-Ok-clause-stored : goal.returns-in-Ok-clause-stored
returns-in-Ok-clause-stored g c there told =
    let s0 = c.args.store.now in
    let s1 = c.put.new.self in
    let now = told_on (g.S.NodeSource.nodes s0) (g.S.NodeSource.nodes s1) there told c.in-Ok.ensures.kept in
    let stand = told_at (g.S.NodeSource.nodes s1) (λ there. there c.in-Ok.at ≡ Some c.as_slice.result.now) now.0 c.in-Ok.ensures.place now.1 in
    record { fits = c.in_ok-bytes.ensures.fits; bytes = stand ∙ ap Some (c.as_slice.ensures.value ∙ c.in_ok-bytes.ensures.bytes) }

pub returns-in-Ok-clause-takes : goal.returns-in-Ok-clause-takes
returns-in-Ok-clause-takes g c =
    let long = ap length (c.as_slice.ensures.value ∙ c.in_ok-bytes.ensures.bytes) in
    omega (arith, long, c.in-Ok.ensures.size)

pub returns-in-Ok-clause-leaf : goal.returns-in-Ok-clause-leaf
returns-in-Ok-clause-leaf g c =
    let long = ap length (c.as_slice.ensures.value ∙ c.in_ok-bytes.ensures.bytes) in
    omega (arith, long, c.in-Ok.ensures.size, leaf_long g.M.Unit.Item.spelled c.args.node)

pub returns-in-Ok-clause-ran : goal.returns-in-Ok-clause-ran
returns-in-Ok-clause-ran g c =
    let laws : Laws g.S.NodeSource g.M.Summer = record { store_steps = g.met.S.NodeSource.are_steps; store_keeps = g.met.S.NodeSource.keeps; store_caused = g.met.S.NodeSource.stays_caused; summer_steps = g.met.M.Summer.are_steps; summer_keeps = g.met.M.Summer.keeps; summer_caused = g.met.M.Summer.stays_caused; summer_asked = g.met.M.Summer.stays_asked; summer_gave = g.met.M.Summer.stays_given } in
    goes_put g.M.Unit.Item g.S.NodeSource g.M.Summer laws c.args.store.now c.put.new.self c.args.summer.now c.tell.new.summer c.as_slice.result.now c.args.node c.in-Ok.ensures.goes c.in_ok-told.ensures.ran c.in-Ok.ensures.puts c.in-Ok.ensures.gets (c.as_slice.ensures.value ∙ c.in_ok-bytes.ensures.bytes) c.in_ok-bytes.ensures.fits c.requires.most c.in_ok-told.ensures.summed

pub returns-in-Ok-clause-puts : goal.returns-in-Ok-clause-puts
returns-in-Ok-clause-puts g c =
    let more = ap length c.in-Ok.ensures.puts in
    omega (arith, more)

pub returns-in-Ok-clause-reads : goal.returns-in-Ok-clause-reads
returns-in-Ok-clause-reads g c =
    let more = ap length c.in-Ok.ensures.puts in
    let r = c.in-Ok.ensures.reads in
    (r.later, omega (arith, more, r.within))

pub returns-in-Ok-clause-filled : goal.returns-in-Ok-clause-filled
returns-in-Ok-clause-filled g c = filled_one g.M.Unit.Item c.args.node c.as_slice.result.now _ _ c.in-Ok.ensures.puts (c.as_slice.ensures.value ∙ c.in_ok-bytes.ensures.bytes) c.in_ok-bytes.ensures.fits

pub returns-in_err-told-clause-ran : goal.returns-in_err-told-clause-ran
returns-in_err-told-clause-ran g c =
    let laws : Laws g.S.NodeSource g.M.Summer = record { store_steps = g.met.S.NodeSource.are_steps; store_keeps = g.met.S.NodeSource.keeps; store_caused = g.met.S.NodeSource.stays_caused; summer_steps = g.met.M.Summer.are_steps; summer_keeps = g.met.M.Summer.keeps; summer_caused = g.met.M.Summer.stays_caused; summer_asked = g.met.M.Summer.stays_asked; summer_gave = g.met.M.Summer.stays_given } in
    let p = err_from_is_err_and c.from_residual.result c.from_residual.ensures.1 in
    ran_err g.M.Unit.Item g.S.NodeSource g.M.Summer laws _ _ _ _ c.from_residual.result c.in_err-told.field-0.0 p.0 p.2 p.1
    (summed_fails g.M.Unit.Item g.S.NodeSource g.M.Summer laws (Unit {0}) c.args.store.now c.args.summer.now c.tell.new.summer _ c.in_err-told.ensures.ran)

pub returns-in_err-told-clause-filled : goal.returns-in_err-told-clause-filled
returns-in_err-told-clause-filled g c = filled_none g.M.Unit.Item _ _ (g.S.NodeSource.puts c.args.store.now)

pub returns-in_err-told-clause-sound : goal.returns-in_err-told-clause-sound
returns-in_err-told-clause-sound g c =
    let p = err_from_is_err_and c.from_residual.result c.from_residual.ensures.1 in
    sound_err c.from_residual.result c.in_err-told.field-0.0 p.0 p.2 p.1 (summed_sound (Unit {0}) g.M.Summer c.args.summer.now c.tell.new.summer _ c.in_err-told.ensures.ran)

pub returns-in_err-bytes-clause-filled : goal.returns-in_err-bytes-clause-filled
returns-in_err-bytes-clause-filled g c = filled_none g.M.Unit.Item _ _ (g.S.NodeSource.puts c.args.store.now)

pub returns-in_err-bytes-clause-ran : goal.returns-in_err-bytes-clause-ran
returns-in_err-bytes-clause-ran g c =
    let laws : Laws g.S.NodeSource g.M.Summer = record { store_steps = g.met.S.NodeSource.are_steps; store_keeps = g.met.S.NodeSource.keeps; store_caused = g.met.S.NodeSource.stays_caused; summer_steps = g.met.M.Summer.are_steps; summer_keeps = g.met.M.Summer.keeps; summer_caused = g.met.M.Summer.stays_caused; summer_asked = g.met.M.Summer.stays_asked; summer_gave = g.met.M.Summer.stays_given } in
    let p = err_from_is_err_and c.from_residual-in_err-bytes.result c.from_residual-in_err-bytes.ensures.1 in
    ran_err g.M.Unit.Item g.S.NodeSource g.M.Summer laws _ _ _ _ c.from_residual-in_err-bytes.result tree_fault.NoMemory p.0 p.2 p.1 (goes_summer g.M.Unit.Item g.S.NodeSource g.M.Summer laws c.args.store.now c.args.summer.now c.tell.new.summer c.in_ok-told.ensures.ran)

pub returns-clause-puts : goal.returns-clause-puts
returns-clause-puts g c =
    let more = ap length c.in-Err.ensures.puts in
    omega (arith, more)

pub returns-clause-reads : goal.returns-clause-reads
returns-clause-reads g c =
    let more = ap length c.in-Err.ensures.puts in
    let r = c.in-Err.ensures.reads in
    (r.later, omega (arith, more, r.within))

pub returns-clause-filled : goal.returns-clause-filled
returns-clause-filled g c = filled_one g.M.Unit.Item c.args.node c.as_slice.result.now _ _ c.in-Err.ensures.puts (c.as_slice.ensures.value ∙ c.in_ok-bytes.ensures.bytes) c.in_ok-bytes.ensures.fits

pub returns-clause-ran : goal.returns-clause-ran
returns-clause-ran g c =
    let laws : Laws g.S.NodeSource g.M.Summer = record { store_steps = g.met.S.NodeSource.are_steps; store_keeps = g.met.S.NodeSource.keeps; store_caused = g.met.S.NodeSource.stays_caused; summer_steps = g.met.M.Summer.are_steps; summer_keeps = g.met.M.Summer.keeps; summer_caused = g.met.M.Summer.stays_caused; summer_asked = g.met.M.Summer.stays_asked; summer_gave = g.met.M.Summer.stays_given } in
    fails_put g.M.Unit.Item g.S.NodeSource g.M.Summer laws c.args.store.now c.put.new.self c.args.summer.now c.tell.new.summer _ c.as_slice.result.now c.args.node c.in-Err.ensures.cause c.in_ok-told.ensures.ran c.in-Err.ensures.puts c.in-Err.ensures.gets (c.as_slice.ensures.value ∙ c.in_ok-bytes.ensures.bytes) c.in_ok-bytes.ensures.fits c.requires.most c.in_ok-told.ensures.summed

pub returns-in_err-told-clause-refused : goal.returns-in_err-told-clause-refused
returns-in_err-told-clause-refused g c = refused_sure _ c.from_residual.result refl

pub returns-in_err-bytes-clause-refused : goal.returns-in_err-bytes-clause-refused
returns-in_err-bytes-clause-refused g c = refused_sure _ c.from_residual-in_err-bytes.result refl

pub returns-in_err-told-clause-sums : goal.returns-in_err-told-clause-sums
returns-in_err-told-clause-sums g c first had keeps = had_none g.M.Unit.Item g.M.Summer (Contains had) first c.tell.new.summer (g.S.NodeSource.puts c.args.store.now)

pub returns-in_err-bytes-clause-sums : goal.returns-in_err-bytes-clause-sums
returns-in_err-bytes-clause-sums g c first had keeps = had_none g.M.Unit.Item g.M.Summer (Contains had) first c.tell.new.summer (g.S.NodeSource.puts c.args.store.now)

pub returns-in-Ok-clause-sums : goal.returns-in-Ok-clause-sums
returns-in-Ok-clause-sums g c first had keeps =
    let laws : Laws g.S.NodeSource g.M.Summer = record { store_steps = g.met.S.NodeSource.are_steps; store_keeps = g.met.S.NodeSource.keeps; store_caused = g.met.S.NodeSource.stays_caused; summer_steps = g.met.M.Summer.are_steps; summer_keeps = g.met.M.Summer.keeps; summer_caused = g.met.M.Summer.stays_caused; summer_asked = g.met.M.Summer.stays_asked; summer_gave = g.met.M.Summer.stays_given } in
    let i = g.M.Unit.Item in let s = g.S.NodeSource in let m = g.M.Summer in let s0 = c.args.store.now in let u0 = c.args.summer.now in
    let u1 = c.tell.new.summer in
    had_one i m (Contains had) first u0 u1 (gave_goes s m laws first u0 u1 c.in_ok-told.ensures.ran) c.args.node c.as_slice.result.now (s.puts s0) (s.puts c.put.new.self) c.in-Ok.ensures.puts (c.as_slice.ensures.value ∙ c.in_ok-bytes.ensures.bytes) c.in_ok-bytes.ensures.fits keeps

pub returns-clause-sums : goal.returns-clause-sums
returns-clause-sums g c first had keeps =
    let laws : Laws g.S.NodeSource g.M.Summer = record { store_steps = g.met.S.NodeSource.are_steps; store_keeps = g.met.S.NodeSource.keeps; store_caused = g.met.S.NodeSource.stays_caused; summer_steps = g.met.M.Summer.are_steps; summer_keeps = g.met.M.Summer.keeps; summer_caused = g.met.M.Summer.stays_caused; summer_asked = g.met.M.Summer.stays_asked; summer_gave = g.met.M.Summer.stays_given } in
    let i = g.M.Unit.Item in let s = g.S.NodeSource in let m = g.M.Summer in let s0 = c.args.store.now in let u0 = c.args.summer.now in
    let u1 = c.tell.new.summer in
    had_one i m (Contains had) first u0 u1 (gave_goes s m laws first u0 u1 c.in_ok-told.ensures.ran) c.args.node c.as_slice.result.now (s.puts s0) (s.puts c.put.new.self) c.in-Err.ensures.puts (c.as_slice.ensures.value ∙ c.in_ok-bytes.ensures.bytes) c.in_ok-bytes.ensures.fits keeps
