-- The lines of a load never meet a clash: of all that they write only the first write stores a design, so no two designs of it differ.
use Rattle.std.specs.Prelude.{if◌then◌else◌, zero, suc, Contains}
use Rattle.std.proofs.Common.{◌≡◌, ◌⊎◌, ◌≤◌, ◌<◌, ◌^◌, ◌∙◌, ◌++◌, ℕ, List, [], ◌∷◌, length, map, Bool, true, false, Option, Some, None, Result, Ok, inl, inr, refl, sym, ap, subst, arith, append-nil, length-append}
use Rattle.std.specs.Io.KnownBytes.{Consumes}
use Rattle.std.specs.List.{AllByRecursion, flat_map}
use Rattle.std.proofs.lemmas.List.Elements.{All-from_recursion}
use Rattle.json_terms.specs.Json.{Json, members_of, object}
use Rattle.design_docs.specs.Design.{design_term}
use Rattle.design_docs.specs.Documents.{is_design_id}
use Rattle.design_docs.specs.History.{Write}
use Rattle.view_ports.specs.Disk.{Disk, IfTold}
use Rattle.view_ports.specs.Exchanges.{Exchange, IsPrefixOf, LeadsTo, lines_of}
use Rattle.view_ports.specs.Functions.{Functions}
use Rattle.view_ports.specs.Lines.{ended, last_line, IsCut, IsLine}
use Rattle.view_ports.specs.declared.file_name.FileName.{FileName}
use Rattle.view_ports.proofs.Cutting.{IsCut-extended, IsCut-unique, IsLine-nil}
use Rattle.view_ports.proofs.Exchanging.{IsPrefixOf-nil, IsPrefixOf-trans}
use Rattle.view_model.specs.Standing.{IsDesignIn}
use Rattle.view_model.proofs.Strict.{all_append}
use Rattle.view_engine.specs.declared.refusal.Refusal.{Refusal}
use Rattle.view_engine.specs.declared.request.Request.{Request}
use Rattle.view_engine.specs.declared.request.Request.TheVariants.{Put}
use Rattle.view_engine.specs.Accepted.{after_request, is_ok}
use Rattle.view_engine.specs.Moments.{Moment}
use Rattle.view_engine.specs.Put.{put_write}
use Rattle.view_engine.specs.Refusals.{request_of}
use Rattle.view_engine.specs.Steps.{Answers}
use Rattle.view_engine.specs.Updating.{AreFit}
use Rattle.view_engine.specs.World.{World}
use Rattle.view_engine.specs.Worlds.{at_start}
use Rattle.view_engine.proofs.AcceptedWrites.{Answers-accepted}
use Rattle.load_lines.specs.Documents.{document, load_design}
use Rattle.load_lines.specs.Lines.{first_lines, info_line, numbers_to, put_line, second_lines, view_line}
use Rattle.load_lines.proofs.Each.{each_document, each_second}
use Rattle.couchview_cli.specs.Loading.{load_lines}
use Rattle.couchview_cli.specs.Serving.{width, MeetsClash, Steps}
use Rattle.couchview_cli.proofs.LoadMeaning.{none_keeps, IsPlainPut, WritesNone}
use Rattle.couchview_cli.proofs.LoadRequests.{design_asks, document_plain, each_line, info_writes_none, raised_plain, view_writes_none, AsksPut}
use Rattle.couchview_cli.proofs.LoadWhole.{answers}

-- ---- lists

-- what holds of each element of a list holds of each at its front
each_front : {A : Type 0} (P : A → Type 0) (xs ys : List A) → AllByRecursion P (xs ++ ys) → AllByRecursion P xs
each_front P [] ys each = tt
each_front P (x ∷ xs) ys each = (each.0, each_front P xs ys each.1)

-- where a list with one element more stands at the front of others with at most one more, the list stands at the front of the others
without_last : {A : Type 0} (xs : List A) (x : A) (ys behind : List A) → length behind ≤ 1 → IsPrefixOf (xs ++ x ∷ []) (ys ++ behind) → IsPrefixOf xs ys
without_last [] x ys behind few front = IsPrefixOf-nil ys
without_last (a ∷ xs) x [] behind few front =
    let long = ap length front.1 in
    let both = length-append (a ∷ (xs ++ x ∷ [])) front.0 in
    let more = length-append xs (x ∷ []) in
    absurd (omega (arith, few, long, both, more))
without_last (a ∷ xs) x (b ∷ ys) behind few front =
    let head : b ≡ a = cc in
    let tail : ys ++ behind ≡ (xs ++ x ∷ []) ++ front.0 = cc in
    let rest = without_last xs x ys behind few (front.0, tail) in
    (rest.0, cc)

last_line-few : (rest : List ℕ) → length (last_line rest) ≤ 1
last_line-few [] = omega arith
last_line-few (byte ∷ bytes) = omega arith

-- ---- the lines that are read

-- what is cut from a first part of the text of some lines is a first part of them
cut_lines : (whole : List (List ℕ)) (left : Option (List ℕ)) (bytes : List ℕ) (lines : List (List ℕ)) (rest : List ℕ) → AllByRecursion IsLine whole → Consumes (Some (flat_map ended whole)) left bytes → IsCut bytes lines rest → IsPrefixOf lines whole
cut_lines whole None bytes lines rest each reads cut = absurd reads
cut_lines whole (Some more) bytes lines rest each reads cut =
    let longer = IsCut-extended more bytes lines rest cut in
    let unique = IsCut-unique (bytes ++ more) (lines ++ longer.0) whole longer.1 [] longer.2 (record {
      joined = sym reads ∙ sym (append-nil (flat_map ended whole));
      whole = All-from_recursion IsLine whole each;
      unended = IsLine-nil;
    }) in
    (longer.0, sym unique.0)

-- the lines behind the first one
abbrev later_lines : ℕ → ℕ → List (List ℕ)
later_lines docs seed = map (λ k. put_line (document seed k)) (numbers_to docs) ++ view_line ∷ (second_lines docs seed ++ view_line ∷ info_line ∷ [])

load_lines-are : (docs seed : ℕ) → load_lines docs seed ≡ put_line load_design ∷ later_lines docs seed
unfolding first_lines
load_lines-are docs seed = refl

-- a line stores no design
abbrev StoresNone : List ℕ → Type 0
StoresNone line = IsPlainPut line ⊎ WritesNone line

each_later : (docs seed : ℕ) → seed < 2 ^ 31 → docs ≤ 20000 → AllByRecursion StoresNone (later_lines docs seed)
each_later docs seed low few =
    all_append StoresNone (map (λ k. put_line (document seed k)) (numbers_to docs)) _ (each_document StoresNone docs seed (λ k least most. inl (document_plain seed k low (omega (arith, most, few))))) (
      inr view_writes_none,
      all_append StoresNone (second_lines docs seed) _ (each_second StoresNone docs seed (λ k least most third. inl (raised_plain seed k low (omega (arith, most, few)))))
          (inr view_writes_none, (inr info_writes_none, tt)),
    )

-- ---- designs

-- no write stores none
no_fit : AreFit []
no_fit = record { apart = λ one other is_one is_other same. absurd (let within = is_one.stored.1 in omega (arith, within)) }

-- one write stores one design at most
stored_by : (write : Write) (document : Json) → IsDesignIn (write ∷ []) document → write.document ≡ Some document
stored_by write document is = by_place is.stored
  where
    by_place : Contains (write ∷ []) (record { id = is.id; document = Some document }) → write.document ≡ Some document
    by_place (zero, within, same) = ap (λ (w : Write). w.document) same
    by_place (suc k, within, same) = absurd (omega (arith, within))

one_fit : (write : Write) → AreFit (write ∷ [])
one_fit write = record { apart = λ one other is_one is_other same. ap design_term (unsome one other (sym (stored_by write one is_one) ∙ stored_by write other is_other)) }
  where
    unsome : (x y : Json) → Some x ≡ Some y → x ≡ y
    unsome x y same = cc

-- a write of another id adds none
older : (write : Write) (history : List Write) → is_design_id write.id ≡ false → (document : Json) → IsDesignIn (write ∷ history) document → IsDesignIn history document
older write history plain document is = by_place is.stored
  where
    by_place : Contains (write ∷ history) (record { id = is.id; document = Some document }) → IsDesignIn history document
    by_place (zero, within, same) = let never : true ≡ false = sym is.design ∙ ap (λ (w : Write). is_design_id w.id) (sym same) ∙ plain in absurd (cc)
    by_place (suc k, within, same) = record { id = is.id; design = is.design; stored = (k, omega (arith, within), same) }

still_fit : (write : Write) (history : List Write) → is_design_id write.id ≡ false → AreFit history → AreFit (write ∷ history)
still_fit write history plain fit = record { apart = λ one other is_one is_other. fit.apart one other (older write history plain one is_one) (older write history plain other is_other) }

-- ---- the exchanges of a load

module _ (functions : List ℕ → Functions) (honest : List ℕ → Type 0) where
  abbrev Step : Moment → Exchange → Moment → Type 0
  Step = Answers functions honest []

  by_ok : (world : World) (b : Bool) (after : World) → AreFit world.history → AreFit after.history → AreFit (if b then after else world).history
  by_ok world true after fit then_ = then_
  by_ok world false after fit then_ = fit

  -- designs stay fit in a put whose write leaves them so, whether it is accepted or not
  put_fits : (before : Moment) (e : Exchange) (after : Moment) (members : List (List ℕ × Json)) → request_of e.line ≡ Ok (Put members) → Step before e after
      → AreFit (before.world).history → AreFit (put_write before.world (object (members_of members)) ∷ (before.world).history) → AreFit (after.world).history
  put_fits before e after members asks step fit then_ =
      subst AreFit (sym (Answers-accepted functions honest [] before e after step))
      (by_ok before.world (is_ok e.text) (after_request before.world (request_of e.line)) fit (subst (λ (r : Result Request Refusal). AreFit (after_request before.world r).history) (sym asks) then_))

  -- the first line puts the design
  first_fits : (before : Moment) (e : Exchange) (after : Moment) → e.line ≡ put_line load_design → Step before e after → (before.world).history ≡ [] → AreFit (after.world).history
  first_fits before e after line step none =
      let asks : AsksPut load_design = design_asks in
      put_fits before e after asks.0 (ap request_of line ∙ asks.1) step (subst AreFit (sym none) no_fit)
      (subst (λ (h : List Write). AreFit (put_write before.world (object (members_of asks.0)) ∷ h)) (sym none) (one_fit (put_write before.world (object (members_of asks.0)))))

  -- each other one stores none
  later_fits : (before : Moment) (e : Exchange) (after : Moment) → StoresNone e.line → Step before e after → AreFit (before.world).history → AreFit (after.world).history
  later_fits before e after (inl put) step fit =
      put_fits before e after put.members put.asks step fit (still_fit (put_write before.world (object (members_of put.members))) (before.world).history put.plain fit)
  later_fits before e after (inr none) step fit = subst AreFit (sym (none_keeps functions honest before e after none step)) fit

  later_fit : (before : Moment) (es : List Exchange) (after : Moment) → AllByRecursion StoresNone (lines_of es) → LeadsTo Step before es after → AreFit (before.world).history → AreFit (after.world).history
  later_fit before [] after each leads fit = subst (λ (m : Moment). AreFit (m.world).history) (sym leads) fit
  later_fit before (e ∷ es) after each leads fit = later_fit leads.0 es after each.1 leads.2 (later_fits before e leads.0 each.0 leads.1 fit)

  -- where no document was written before, the designs of what the first lines write are fit
  lines_fit : (docs seed : ℕ) → seed < 2 ^ 31 → docs ≤ 20000 → (before : Moment) (es : List Exchange) (after : Moment) → IsPrefixOf (lines_of es) (load_lines docs seed) → LeadsTo Step before es after → (before.world).history ≡ [] → AreFit (after.world).history
  lines_fit docs seed low few before [] after front leads none = subst (λ (m : Moment). AreFit (m.world).history) (sym leads) (subst AreFit (sym none) no_fit)
  lines_fit docs seed low few before (e ∷ es) after front leads none =
      let whole : put_line load_design ∷ later_lines docs seed ≡ e.line ∷ (lines_of es ++ front.0) = sym (load_lines-are docs seed) ∙ front.1 in
      let head : e.line ≡ put_line load_design = cc in
      let tail : later_lines docs seed ≡ lines_of es ++ front.0 = cc in
      later_fit leads.0 es after (each_front StoresNone (lines_of es) front.0 (subst (AllByRecursion StoresNone) tail (each_later docs seed low few))) leads.2 (first_fits before e leads.0 head leads.1 none)

-- Of the lines of a load, from where no document was written, none meets a clash.
pub never_clashes : (functions : List ℕ → Functions) (honest : List ℕ → Type 0) (opening : World) (disk : Option (Disk FileName)) (faults docs seed : ℕ) → seed < 2 ^ 31 → docs ≤ 20000 → IfTold disk (λ d. opening.history ≡ [])
    → (left : Option (List ℕ)) (bytes : List ℕ) → Consumes (Some (flat_map ended (load_lines docs seed))) left bytes → MeetsClash functions honest [] opening disk faults bytes → ⊥
never_clashes functions honest opening disk faults docs seed low few none left bytes reads meets =
    let start : Moment = at_start opening width faults in
    let is_none : opening.history ≡ [] = subst (λ (o : Option (Disk FileName)). IfTold o (λ d. opening.history ≡ [])) meets.is_told none in
    let leads : LeadsTo (Steps functions honest [] opening (Some meets.told)) start meets.exchanges meets.moment = subst (λ (o : Option (Disk FileName)). LeadsTo (Steps functions honest [] opening o) start meets.exchanges meets.moment) meets.is_told meets.leads in
    let cut : IsPrefixOf meets.lines (load_lines docs seed) = cut_lines (load_lines docs seed) left bytes meets.lines meets.rest (each_line docs seed low few) reads meets.cut in
    let first : IsPrefixOf (lines_of meets.exchanges) meets.lines = without_last (lines_of meets.exchanges) meets.line meets.lines (last_line meets.rest) (last_line-few meets.rest) meets.first in
    let front : IsPrefixOf (lines_of meets.exchanges) (load_lines docs seed) = IsPrefixOf-trans (lines_of meets.exchanges) meets.lines (load_lines docs seed) first cut in
    let fit : AreFit (meets.moment.world).history = lines_fit functions honest docs seed low few start meets.exchanges meets.moment front (answers functions honest opening meets.told start meets.exchanges meets.moment leads) is_none in
    let clash = meets.clash in
    clash.differ (fit.apart clash.one clash.other clash.first clash.second clash.signed)
