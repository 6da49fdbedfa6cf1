-- A load whose lines were all served.
use Rattle.std.specs.Prelude.{slice_index_or}
use Rattle.std.proofs.Common.{◌≡◌, ◌≢◌, ◌≤◌, ◌<◌, ◌^◌, ◌∙◌, ◌++◌, ℕ, List, [], ◌∷◌, length, map, codes, Some, refl, sym, ap, subst, arith, append_assoc, length-append}
use Rattle.std.proofs.lemmas.List.{length-map, map-append}
use Rattle.design_docs.specs.History.{Write}
use Rattle.std.specs.List.{AllByRecursion}
use Rattle.view_ports.specs.Disk.{Disk}
use Rattle.view_ports.specs.Exchanges.{Exchange, LeadsTo, lines_of}
use Rattle.view_ports.specs.Faults.{Rose}
use Rattle.view_ports.specs.Functions.{Functions}
use Rattle.view_ports.specs.Lines.{ended}
use Rattle.view_ports.specs.declared.file_name.FileName.{FileName}
use Rattle.map_server.specs.Pick.{pick}
use Rattle.view_engine.specs.declared.refusal.Refusal.TheVariants.{NoMemory as OutOfMemory}
use Rattle.view_engine.specs.Moments.{Moment}
use Rattle.view_engine.specs.Refusals.{refusal_text}
use Rattle.view_engine.specs.Steps.{Answers}
use Rattle.view_engine.specs.Updating.{IsSound}
use Rattle.view_engine.specs.World.{World}
use Rattle.view_engine.proofs.Later.{answers_later, leads_later}
use Rattle.load_lines.specs.Documents.{document, load_design}
use Rattle.load_lines.specs.Lines.{first_lines, info_line, numbers_to, put_line, second_lines, view_line}
use Rattle.load_lines.proofs.Each.{each_document, each_second}
use Rattle.view_engine.specs.Refusals.{request_of}
use Rattle.couchview_cli.specs.Loading.{fresh_answer, load_lines, reply_to, second_view, NoneWants}
use Rattle.couchview_cli.specs.Serving.{Steps}
use Rattle.couchview_cli.proofs.LoadMeaning.{design_write, has_at_first, lines_split, leads_split, none_keeps, puts_keep, HasLoadDesign, IsPlainPut, WritesNone}
use Rattle.couchview_cli.proofs.LoadRequests.{design_asks, document_plain, info_writes_none, put_some, raised_plain, view_asks, view_some, view_writes_none}
use Rattle.couchview_cli.proofs.LoadSame.{first_put, second_fresh}

-- what stands behind a list
pub at_behind : {A : Type 0} (xs : List A) (y : A) (zs : List A) (d : A) → slice_index_or (xs ++ y ∷ zs) (length xs) d ≡ y
at_behind [] y zs d = refl
at_behind (x ∷ xs) y zs d = at_behind xs y zs d

all_split : {A : Type 0} (P : A → Type 0) (xs ys : List A) → AllByRecursion P (xs ++ ys) → AllByRecursion P xs × AllByRecursion P ys
all_split P [] ys all = (tt, all)
all_split P (x ∷ xs) ys all = let rest = all_split P xs ys all.1 in ((all.0, rest.0), rest.1)

cons_of : (es : List Exchange) (x : List ℕ) (xs : List (List ℕ)) → lines_of es ≡ x ∷ xs → (e : Exchange) × (rest : List Exchange) × (es ≡ e ∷ rest) × (e.line ≡ x) × (lines_of rest ≡ xs)
cons_of [] x xs same = absurd (let never : ⊥ = cc in never)
cons_of (e ∷ es) x xs same = (e, es, refl, cc, cc)

none_of : (es : List Exchange) → lines_of es ≡ [] → es ≡ []
none_of [] same = refl
none_of (e ∷ es) same = absurd (let never : ⊥ = cc in never)

module _ (functions : List ℕ → Functions) (honest : List ℕ → Type 0) (opening : World) (d : Disk FileName) where
  abbrev Step : Moment → Exchange → Moment → Type 0
  Step = Steps functions honest [] opening (Some d)

  pub answers : (a : Moment) (es : List Exchange) (b : Moment) → LeadsTo Step a es b → LeadsTo (Answers functions honest []) a es b
  answers a [] b leads = leads
  answers a (e ∷ es) b leads = (leads.0, ((leads.1).1).0, answers leads.0 es b leads.2)

  -- a request that writes no document leaves the history
  keeps : (line : List ℕ) → WritesNone line → (before : Moment) (e : Exchange) (after : Moment) → e.line ≡ line → Step before e after → (after.world).history ≡ (before.world).history
  keeps line none before e after is step = none_keeps functions honest before e after (subst WritesNone (sym is) none) (step.1).0

  -- the exchanges of a load, and the moments between
  pub record HasParts (docs seed : ℕ) (start end : Moment) (es : List Exchange) : Type 0 where
    pub firsts : List Exchange
    pub view : Exchange
    pub seconds : List Exchange
    pub again : Exchange
    pub info : Exchange
    pub shape : es ≡ firsts ++ view ∷ (seconds ++ again ∷ info ∷ [])
    pub of_firsts : lines_of firsts ≡ first_lines docs seed
    pub of_seconds : lines_of seconds ≡ second_lines docs seed
    pub of_again : again.line ≡ view_line
    pub firsts_done : NoneWants firsts
    pub seconds_done : NoneWants seconds
    pub again_done : again.text ≢ ended (refusal_text OutOfMemory)
    pub after_firsts : Moment
    pub after_view : Moment
    pub after_seconds : Moment
    pub after_again : Moment
    pub loads : LeadsTo Step start firsts after_firsts
    pub views : Step after_firsts view after_view
    pub raises : LeadsTo Step after_view seconds after_seconds
    pub views_again : Step after_seconds again after_again
    pub tells : Step after_again info end
    -- neither the views nor `info` write a document
    pub viewed : (after_view.world).history ≡ (after_firsts.world).history
    pub told : (end.world).history ≡ (after_seconds.world).history

  module _ (docs seed : ℕ) where
    parts_of_shape : (start end : Moment) (es firsts : List Exchange) (v : Exchange) (seconds : List Exchange) (w i : Exchange) → es ≡ firsts ++ v ∷ (seconds ++ w ∷ i ∷ []) → lines_of firsts ≡ first_lines docs seed
        → v.line ≡ view_line → lines_of seconds ≡ second_lines docs seed → w.line ≡ view_line → i.line ≡ info_line → NoneWants es → LeadsTo Step start es end → HasParts docs seed start end es
    parts_of_shape start end es firsts v seconds w i shape of_firsts of_v of_seconds of_w of_i done leads =
        let front = all_split _ firsts (v ∷ (seconds ++ w ∷ i ∷ [])) (subst NoneWants shape done) in
        let behind = all_split _ seconds (w ∷ i ∷ []) (front.1).1 in
        let one = leads_split Step start end firsts (v ∷ (seconds ++ w ∷ i ∷ [])) (subst (λ (l : List Exchange). LeadsTo Step start l end) shape leads) in
        let m2 = (one.2).0 in
        let two = leads_split Step m2 end seconds (w ∷ i ∷ []) (one.2).2 in
        let m4 = (two.2).0 in
        let tells : Step m4 i end = subst (Step m4 i) (sym ((two.2).2).2) ((two.2).2).1 in
        record {
          firsts = firsts;
          view = v;
          seconds = seconds;
          again = w;
          info = i;
          shape = shape;
          of_firsts = of_firsts;
          of_seconds = of_seconds;
          of_again = of_w;
          firsts_done = front.0;
          seconds_done = behind.0;
          again_done = (behind.1).0;
          after_firsts = one.0;
          after_view = m2;
          after_seconds = two.0;
          after_again = m4;
          loads = one.1;
          views = (one.2).1;
          raises = two.1;
          views_again = (two.2).1;
          tells = tells;
          viewed = keeps view_line view_writes_none one.0 v m2 of_v (one.2).1;
          told = keeps info_line info_writes_none m4 i end of_i tells ∙ keeps view_line view_writes_none two.0 w m4 of_w (two.2).1;
        }

    pub parts_of : (start end : Moment) (es : List Exchange) → lines_of es ≡ load_lines docs seed → NoneWants es → LeadsTo Step start es end → HasParts docs seed start end es
    parts_of start end es same done leads =
        let one = lines_split es (first_lines docs seed) (view_line ∷ (second_lines docs seed ++ view_line ∷ info_line ∷ [])) same in
        let v = cons_of one.1 view_line (second_lines docs seed ++ view_line ∷ info_line ∷ []) one.4 in
        let two = lines_split v.1 (second_lines docs seed) (view_line ∷ info_line ∷ []) v.4 in
        let w = cons_of two.1 view_line (info_line ∷ []) two.4 in
        let i = cons_of w.1 info_line [] w.4 in
        let shape : es ≡ one.0 ++ v.0 ∷ (two.0 ++ w.0 ∷ i.0 ∷ []) =
        one.2 ∙ ap (λ (l : List Exchange). one.0 ++ l) (v.2 ∙ ap (λ (l : List Exchange). v.0 ∷ l) (two.2 ∙ ap (λ (l : List Exchange). two.0 ++ l) (w.2 ∙ ap (λ (l : List Exchange). w.0 ∷ l) (i.2 ∙ ap (λ (l : List Exchange). i.0 ∷ l) (none_of i.1 i.4))))) in
        parts_of_shape start end es one.0 v.0 two.0 w.0 i.0 shape one.3 v.3 two.3 w.3 i.3 done leads

    -- the first of the first lines stores the design, and the others put the documents
    pub design_stored : (start mid : Moment) (es : List Exchange) → lines_of es ≡ first_lines docs seed → NoneWants es → LeadsTo Step start es mid → (start.world).history ≡ []
        → (rest : List Exchange) × (after : Moment) × (lines_of rest ≡ map (λ k. put_line (document seed k)) (numbers_to docs)) × NoneWants rest × LeadsTo Step after rest mid × ((after.world).history ≡ design_write ∷ [])
    unfolding first_lines
    design_stored start mid [] same done leads none = absurd (let never : ⊥ = cc in never)
    design_stored start mid (e ∷ es) same done leads none =
        let line : e.line ≡ put_line load_design = cc in
        let asks = design_asks in (
          es,
          leads.0,
          cc,
          done.1,
          leads.2,
          first_put functions honest start e leads.0 asks.0 (ap request_of line ∙ asks.1) asks.2 none (λ is. put_some load_design (sym line ∙ is)) done.0 ((leads.1).1).0,
        )

  module _ (docs seed : ℕ) (low : seed < 2 ^ 31) (few : docs ≤ 20000) where
    after_puts : (start mid : Moment) (es : List Exchange) → lines_of es ≡ first_lines docs seed → NoneWants es → LeadsTo Step start es mid → (start.world).history ≡ [] → HasLoadDesign (mid.world).history
    after_puts start mid es same done leads none =
        let first = design_stored docs seed start mid es same done leads none in
        puts_keep functions honest first.1 first.0 mid (subst (AllByRecursion IsPlainPut) (sym first.2) (each_document IsPlainPut docs seed (λ k one most. document_plain seed k low (omega (arith, most, few)))))
        (answers first.1 first.0 mid first.4) (subst HasLoadDesign (sym first.5) has_at_first)

    module _ (sound : IsSound functions honest [] opening) (is_honest : honest (codes "builtin:pick")) (is_pick : functions (codes "builtin:pick") ≡ pick) where
      shaped : (start end : Moment) (es : List Exchange) (parts : HasParts docs seed start end es) → (start.world).history ≡ [] → (Rose start.faults end.faults → ⊥) → parts.again.text ≡ ended (fresh_answer (end.world).history)
      shaped start end es parts none calm =
          let m1 = parts.after_firsts in
          let m2 = parts.after_view in
          let m3 = parts.after_seconds in
          let m4 = parts.after_again in
          let h1 : HasLoadDesign (m1.world).history = after_puts start m1 parts.firsts parts.of_firsts parts.firsts_done parts.loads none in
          let h2 : HasLoadDesign (m2.world).history = subst HasLoadDesign (sym parts.viewed) h1 in
          let h3 : HasLoadDesign (m3.world).history = puts_keep functions honest m2 parts.seconds m3
          (subst (AllByRecursion IsPlainPut) (sym parts.of_seconds) (each_second IsPlainPut docs seed (λ k least most third. raised_plain seed k low (omega (arith, most, few))))) (answers m2 parts.seconds m3 parts.raises) h2 in
          let to_m1 = leads_later functions honest [] start parts.firsts m1 (answers start parts.firsts m1 parts.loads) in
          let to_m2 = answers_later functions honest [] m1 parts.view m2 ((parts.views).1).0 in
          let to_m3 = leads_later functions honest [] m2 parts.seconds m3 (answers m2 parts.seconds m3 parts.raises) in
          let to_end = answers_later functions honest [] m4 parts.info end ((parts.tells).1).0 in
          second_fresh functions honest m3 parts.again m4 (ap request_of parts.of_again ∙ view_asks) (λ is. view_some (sym parts.of_again ∙ is)) parts.again_done ((parts.views_again).1).0 h3 (((parts.views_again).1).1 sound) is_honest is_pick
          (λ rose. calm (omega (arith, to_m1, to_m2, to_m3, to_end, rose)))
          ∙ ap (λ (h : List Write). ended (fresh_answer h)) (sym parts.told)

      -- where the second view stands
      placed : (start end : Moment) (es : List Exchange) (parts : HasParts docs seed start end es) → reply_to es (second_view docs seed) ≡ parts.again.text
      placed start end es parts =
          let text : Exchange → List ℕ = λ e. e.text in
          let front = parts.firsts ++ parts.view ∷ parts.seconds in
          let rest = parts.again ∷ parts.info ∷ [] in
          let whole : es ≡ front ++ rest = parts.shape ∙ sym (append_assoc parts.firsts (parts.view ∷ parts.seconds) rest) in
          let texts : map text es ≡ map text front ++ map text rest = ap (map text) whole ∙ map-append text front rest in
          let a : length parts.firsts ≡ length (first_lines docs seed) = sym (length-map parts.firsts (λ (e : Exchange). e.line)) ∙ ap length parts.of_firsts in
          let b : length parts.seconds ≡ length (second_lines docs seed) = sym (length-map parts.seconds (λ (e : Exchange). e.line)) ∙ ap length parts.of_seconds in
          let long : length (map text front) ≡ second_view docs seed = length-map front text ∙ (let l = length-append parts.firsts (parts.view ∷ parts.seconds) in omega (arith, l, a, b)) in
          ap (λ (ts : List (List ℕ)). slice_index_or ts (second_view docs seed) []) texts
          ∙ ap (λ (n : ℕ). slice_index_or (map text front ++ map text rest) n []) (sym long)
          ∙ at_behind (map text front) parts.again.text (parts.info.text ∷ []) []

      pub second_is_fresh : (start end : Moment) (es : List Exchange) → lines_of es ≡ load_lines docs seed → NoneWants es → LeadsTo Step start es end → (start.world).history ≡ [] → (Rose start.faults end.faults → ⊥)
          → reply_to es (second_view docs seed) ≡ ended (fresh_answer (end.world).history)
      second_is_fresh start end es same done leads none calm =
          let parts = parts_of docs seed start end es same done leads in
          placed start end es parts ∙ shaped start end es parts none calm
