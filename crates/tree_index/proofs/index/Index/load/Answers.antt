-- The root record is read once the pair is opened, and a read changes nothing.
use Rattle.std.proofs.Common.{◌≡◌, ◌<◌, ◌^◌, ℕ, List, length, map, Option, Some, None, Err, IfOk, refl, ap, sym, ◌∙◌, subst, inl, inr, rules}
use Rattle.view_ports.specs.Disk.{Disk, IfTold, Moves, MovesNone}
use Rattle.view_ports.specs.File.{File}
use Rattle.view_ports.specs.declared.file_name.FileName.{FileName}
use Rattle.view_ports.proofs.DiskRuns.{none_same}
use Rattle.view_ports.proofs.Told.{told_after, told_back, told_all, told_given, told_now, told_pair}
use Rattle.gate_file.specs.declared.fault.GateFault.TheVariants.{Damaged}
use Rattle.gate_file.specs.declared.root.Root.{Root}
use Rattle.gate_file.specs.Calls.{IsDamageOf}
use Rattle.gate_file.specs.GateFile.{name_of, root_of}
use Rattle.gate_file.specs.Open.{opened, AreFitSlots, IsFirstDamage, IsOpened, WhileOpening}
use Rattle.gate_file.specs.Pair.{own_bytes}
use Rattle.gate_file.specs.RootPlace.{IsPlaceOf}
use Rattle.gate_file.proofs.Opened.{opened_damaged, opened_seen, opening_each, undamaged_seen}
use Rattle.gate_file.proofs.Stretches.{told_end, IsOpened-same}
use Rattle.view_model.specs.Picture.{Picture}
use Rattle.node_file.specs.Records.{node_at}
use Rattle.index_trees.specs.Reading.{rows_in}
use Rattle.tree_index.specs.declared.fault.IndexFault.TheVariants.{Store}
use Rattle.tree_index.specs.Calls.{IsAt}
use Rattle.tree_index.specs.Held.{HoldsIndex, HoldsPicture, IsDamagedAt, IsFileOf, Said, Spells, SpellsRoot, Says}
use Rattle.tree_index.specs.Opens.{said_in, FindsDamage, IsLoaded}
use Rattle.tree_index.specs.Sizes.{are_sizes}
use Rattle.tree_index.proofs.Carried.{picture_of_root}
use Rattle.tree_index.proofs.Opened.{opening_only}
use Rattle.tree_index.proofs.Opening.{at_stood, finds_none, is_loaded, left_after, stands_after, stands_failed, then_none, told_rows, undamaged_slots}
use Rattle.tree_index.proofs.index.Index.load.Goals as goal

pub returns-in_err-file : goal.returns-in_err-file
returns-in_err-file g c =
    let old = g.F.Folder.disk c.args.folder.now in
    let new = g.F.Folder.disk c.open.new.folder in
    let stem = c.args.stem in
    let count = c.args.views in
    let ends : (FileName → File) → (FileName → File) → Type 0 = λ old files. IfOk c.open.result (λ gate. IsOpened gate old files) in
    record {
      fresh = search rules;
      found = finds_none stem c.from_residual.result (IsLoaded stem count) old new _ c.from_residual.ensures.0 c.open.ensures.disk;
      stands = λ functions views picture holds. stands_failed stem functions views c.from_residual.result (λ files index. length views ≡ count → IsAt functions views index files picture) old new picture ends c.from_residual.ensures.0 holds c.open.ensures.disk;
      wanting = λ functions views picture holds wanted. let no : ⊥ = search rules in absurd no;
      sound = λ functions views picture number. told_now old _ _
          (λ d damaged holds n at failed. let was : c.open.result ≡ Err (Damaged n at) = search rules in undamaged_seen stem (HoldsPicture functions views) d.now picture n at holds.seen (damaged n at was)) c.open.ensures.damaged;
      damaged = told_now old _ _ (λ d damaged n at failed. let was : c.open.result ≡ Err (Damaged n at) = search rules in inl (damaged n at was)) c.open.ensures.damaged;
      files = opening_only stem (λ files. ⊥) old new ends c.open.ensures.disk;
      left = told_given old new (λ d. IsDamageOf (IsFirstDamage stem d.now) c.open.result) (λ a b. Moves (IsFileOf stem) (WhileOpening stem a.now) (ends a.now) a b) _
          (λ a b damaged moved n at failed fit. let was : c.open.result ≡ Err (Damaged n at) = search rules in absurd (undamaged_slots stem a.now n at fit (damaged n at was))) c.open.ensures.damaged c.open.ensures.disk;
      faults = search rules;
      cause = search rules;
      reads = search rules;
    }

-- the root of a file that holds a picture says something, where it has a place
some_said : (functions : _) (views : _) (count : ℕ) (root : Option Root) (name own : FileName) (at : ℕ) (bytes : List ℕ) (picture : Option Picture) → length views ≡ count → IsPlaceOf root own name at → HoldsPicture functions views root bytes picture
    → (said : Said) × SpellsRoot count root bytes said
some_said functions views count None name own at bytes picture number place holds = absurd place
some_said functions views count (Some root) name own at bytes None number place holds = absurd holds
some_said functions views count (Some root) name own at bytes (Some p) number place holds = (holds.said, subst (λ n. Spells n root bytes holds.said) number holds.spells)

pub returns-in_err-root : goal.returns-in_err-root
returns-in_err-root g c =
    let old = g.F.Folder.disk c.args.folder.now in
    let mid = g.F.Folder.disk c.open.new.folder in
    let new = g.F.Folder.disk c.load_root.new.folder in
    let stem = c.args.stem in
    let count = c.args.views in
    let file = c.in_ok-file.file in
    let ends : (FileName → File) → (FileName → File) → Type 0 = λ old files. IsOpened file old files in
    let moved = then_none stem c.open.result old mid new ends
    (λ a b d ended same. IsOpened-same file a.now b.now d.now (subst (λ r. IfOk r (λ gate. IsOpened gate a.now b.now)) c.in_ok-file.was ended) same) c.open.ensures.disk c.load_root.ensures.disk in
    record {
      fresh = search rules;
      found = finds_none stem c.from_residual-in_err-root.result (IsLoaded stem count) old new _ c.from_residual-in_err-root.ensures.0 moved;
      stands = λ functions views picture holds. stands_failed stem functions views c.from_residual-in_err-root.result (λ files index. length views ≡ count → IsAt functions views index files picture) old new picture ends c.from_residual-in_err-root.ensures.0 holds moved;
      wanting = λ functions views picture holds wanted. stands_after stem functions views file old new picture c.in_ok-file.ensures.opened moved holds;
      sound = λ functions views picture number.
          told_pair old (λ d. file ≡ opened stem d.now) (λ d. file ≡ opened stem d.now → HoldsIndex functions views stem d.now picture → FindsDamage (λ name at. ⊥) c.from_residual-in_err-root.result)
          (λ d. HoldsIndex functions views stem d.now picture → FindsDamage (λ name at. ⊥) c.from_residual-in_err-root.result)
          (λ d file_is never. never file_is) c.in_ok-file.ensures.opened
          (told_back old mid (λ d. file ≡ opened stem d.now → HoldsIndex functions views stem d.now picture → FindsDamage (λ name at. ⊥) c.from_residual-in_err-root.result) _ _
          (λ a b opens damaged file_is holds n at failed.
          let was : c.load_root.result ≡ Err (Store (Damaged n at)) = search rules in
          let is = subst (λ r. IfOk r (λ gate. IsOpened gate a.now b.now)) c.in_ok-file.was opens.ended in
          let held = opened_seen stem file a.now b.now file_is is (HoldsPicture functions views) (picture_of_root functions views) picture holds.seen in
          let damage = damaged n at was in
          let some = some_said functions views count (root_of file) n (name_of file) at (own_bytes file b.now) picture number damage.place held in
          damage.none some.0 some.1)
          c.open.ensures.disk c.load_root.ensures.damaged);
      damaged =
          told_pair old (λ d. AreFitSlots stem d.now) (λ d. AreFitSlots stem d.now → FindsDamage (IsDamagedAt stem count d.now) c.from_residual-in_err-root.result) _ (λ d fit found. found fit) c.in_ok-file.ensures.sound
          (told_pair old (λ d. file ≡ opened stem d.now) (λ d. file ≡ opened stem d.now → AreFitSlots stem d.now → FindsDamage (IsDamagedAt stem count d.now) c.from_residual-in_err-root.result) (λ d. AreFitSlots stem d.now → FindsDamage (IsDamagedAt stem count d.now) c.from_residual-in_err-root.result)
          (λ d file_is found. found file_is) c.in_ok-file.ensures.opened
          (told_back old mid (λ d. file ≡ opened stem d.now → AreFitSlots stem d.now → FindsDamage (IsDamagedAt stem count d.now) c.from_residual-in_err-root.result) _ _
          (λ a b opens damaged file_is fit n at failed.
          let was : c.load_root.result ≡ Err (Store (Damaged n at)) = search rules in
          let is = subst (λ r. IfOk r (λ gate. IsOpened gate a.now b.now)) c.in_ok-file.was opens.ended in
          inr (fit, opened_damaged stem file a.now b.now file_is is (SpellsRoot count) n at (damaged n at was)))
          c.open.ensures.disk c.load_root.ensures.damaged));
      files = opening_only stem (λ files. ⊥) old new ends moved;
      left = left_after stem c.from_residual-in_err-root.result file old new c.in_ok-file.ensures.opened moved;
      faults = search rules;
      cause = search rules;
      reads = search rules;
    }

pub returns-in_err-next : goal.returns-in_err-next
returns-in_err-next g c =
    let old = g.F.Folder.disk c.args.folder.now in
    let mid = g.F.Folder.disk c.open.new.folder in
    let new = g.F.Folder.disk c.load_root.new.folder in
    let stem = c.args.stem in
    let count = c.args.views in
    let file = c.in_ok-file.file in
    let ends : (FileName → File) → (FileName → File) → Type 0 = λ old files. IsOpened file old files in
    let moved = then_none stem c.open.result old mid new ends
    (λ a b d ended same. IsOpened-same file a.now b.now d.now (subst (λ r. IfOk r (λ gate. IsOpened gate a.now b.now)) c.in_ok-file.was ended) same) c.open.ensures.disk c.load_root.ensures.disk in
    record {
      fresh = search rules;
      found = finds_none stem c.from_residual-in_err-next.result (IsLoaded stem count) old new _ c.from_residual-in_err-next.ensures.0 moved;
      stands = λ functions views picture holds. stands_failed stem functions views c.from_residual-in_err-next.result (λ files index. length views ≡ count → IsAt functions views index files picture) old new picture ends c.from_residual-in_err-next.ensures.0 holds moved;
      wanting = λ functions views picture holds wanted. stands_after stem functions views file old new picture c.in_ok-file.ensures.opened moved holds;
      sound = λ functions views picture number. told_all old _ (λ d holds n at failed. let no : ⊥ = search rules in no);
      damaged = told_all old _ (λ d n at failed. let no : ⊥ = search rules in absurd no);
      files = opening_only stem (λ files. ⊥) old new ends moved;
      left = left_after stem c.from_residual-in_err-next.result file old new c.in_ok-file.ensures.opened moved;
      faults = search rules;
      cause = search rules;
      reads = search rules;
    }

pub invariant_of-result : goal.invariant_of-result
invariant_of-result g c =
    let root = c.in_ok-root.root in
    record {
      few = subst (λ n. n < 2 ^ 16) (sym c.in_ok-root.ensures.number) c.requires.few;
      same = ap (λ t. length t.0) c.in_ok-next.ensures;
      last_sizes = c.in_ok-root.ensures.sizes;
      next_sizes = ap (λ t. are_sizes t.0 t.1) c.in_ok-next.ensures ∙ c.in_ok-root.ensures.sizes;
    }

pub returns : goal.returns
returns g c =
    let old = g.F.Folder.disk c.args.folder.now in
    let mid = g.F.Folder.disk c.open.new.folder in
    let new = g.F.Folder.disk c.load_root.new.folder in
    let stem = c.args.stem in
    let count = c.args.views in
    let file = c.in_ok-file.file in
    let root = c.in_ok-root.root in
    let said : Said = said_in root in
    let ends : (FileName → File) → (FileName → File) → Type 0 = λ old files. IsOpened file old files in
    let moved = then_none stem c.open.result old mid new ends
    (λ a b d ended same. IsOpened-same file a.now b.now d.now (subst (λ r. IfOk r (λ gate. IsOpened gate a.now b.now)) c.in_ok-file.was ended) same) c.open.ensures.disk c.load_root.ensures.disk in
    let says_end : IfTold new (λ d. Says count (root_of file) (own_bytes file d.now) said) =
    told_after mid new (λ d. Says count (root_of file) (own_bytes file d.now) said) (λ d. Says count (root_of file) (own_bytes file d.now) said) MovesNone
    (λ a b is still. subst (λ (f : File). Says count (root_of file) f.seen said) (sym (none_same a b still (name_of file))) is)
    c.in_ok-root.ensures.says c.load_root.ensures.disk in
    let Rows : Disk FileName → Type 0 = λ d. c.told-shown.result.last ≡ map (rows_in (node_at (own_bytes file d.now))) said.views in
    let rows_end : IfTold new Rows = told_now new _ Rows (λ d is. ap (λ s. s.last) c.told-shown.ensures ∙ is) (told_rows new (name_of file) said.views) in
    let known_end : IfTold new (λ d. Says count (root_of file) (own_bytes file d.now) said × Rows d) = told_pair new (λ d. Says count (root_of file) (own_bytes file d.now) said) Rows (λ d. Says count (root_of file) (own_bytes file d.now) said × Rows d) (λ d one two. (one, two)) says_end rows_end in
    let both = told_end old new (λ a b. Moves (IsFileOf stem) (WhileOpening stem a.now) (ends a.now) a b) (λ d. Says count (root_of file) (own_bytes file d.now) said × Rows d) moved known_end in
    record {
      fresh = record { named = c.in_ok-file.ensures.named; number = c.in_ok-root.ensures.number; settled = record { rows = ap (λ s. s.next) c.told-shown.ensures ∙ sym (ap (λ s. s.last) c.told-shown.ensures); trees = c.in_ok-next.ensures } };
      found =
          told_given old new (λ d. AreFitSlots stem d.now × (file ≡ opened stem d.now)) (λ a b. Moves (IsFileOf stem) (WhileOpening stem a.now) (ends a.now) a b × (Says count (root_of file) (own_bytes file b.now) said × Rows b)) _
          (λ a b known told. is_loaded stem count _ file refl (record { rows = ap (λ s. s.next) c.told-shown.ensures ∙ sym (ap (λ s. s.last) c.told-shown.ensures); trees = c.in_ok-next.ensures }) a.now b.now known.1 told.0.ended told.1.0 told.1.1 known.0)
          (told_pair old (λ d. AreFitSlots stem d.now) (λ d. file ≡ opened stem d.now) (λ d. AreFitSlots stem d.now × (file ≡ opened stem d.now)) (λ d fit is. (fit, is)) c.in_ok-file.ensures.sound c.in_ok-file.ensures.opened)
          both;
      stands = λ functions views picture holds.
          let known : (FileName → File) → (FileName → File) → Type 0 = λ old files. (file ≡ opened stem old) × IsOpened file old files × (Says count (root_of file) (own_bytes file files) said × (c.told-shown.result.last ≡ map (rows_in (node_at (own_bytes file files))) said.views)) in
          opening_each stem (HoldsPicture functions views) (picture_of_root functions views) old new (λ files. HoldsIndex functions views stem files picture) picture known _ (λ files each. each)
          (λ a b is ended number. at_stood stem count _ file refl (record { rows = ap (λ s. s.next) c.told-shown.ensures ∙ sym (ap (λ s. s.last) c.told-shown.ensures); trees = c.in_ok-next.ensures }) a.now b.now ended.0 ended.1 ended.2.0 ended.2.1 functions views picture is number) holds
          (told_given old new (λ d. file ≡ opened stem d.now) (λ a b. Moves (IsFileOf stem) (WhileOpening stem a.now) (ends a.now) a b × (Says count (root_of file) (own_bytes file b.now) said × Rows b))
          (λ a b. Moves (IsFileOf stem) (WhileOpening stem a.now) (known a.now) a b)
          (λ a b file_is told. record { moments = told.0.moments; others = told.0.others; ended = (file_is, told.0.ended, told.1) }) c.in_ok-file.ensures.opened both);
      wanting = λ functions views picture holds wanted. let no : ⊥ = search rules in absurd no;
      sound = λ functions views picture number. told_all old _ (λ d holds n at failed. let no : ⊥ = search rules in no);
      damaged = told_all old _ (λ d n at failed. let no : ⊥ = search rules in absurd no);
      files = opening_only stem (λ files. ⊥) old new ends moved;
      left = left_after stem _ file old new c.in_ok-file.ensures.opened moved;
      faults = search rules;
      cause = search rules;
      reads = search rules;
    }
