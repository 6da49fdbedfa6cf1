-- What the requests of a load do to a world without writes.
use Rattle.std.specs.Prelude.{if◌then◌else◌, Contains, bytes_eq, zero, suc}
use Rattle.std.proofs.Common.{◌≡◌, ◌≢◌, ◌⊎◌, ◌∙◌, ◌++◌, ℕ, List, [], ◌∷◌, Bool, true, false, codes, Some, Result, Ok, inl, inr, refl, sym, ap, subst, arith}
use Rattle.std.specs.List.{AllByRecursion}
use Rattle.std.proofs.lemmas.Bool.{cases_Bool}
use Rattle.std.proofs.lemmas.Slice.Eq.{bytes_eq-Decides}
use Rattle.json_terms.specs.Json.{Json, members_of, object}
use Rattle.design_docs.specs.Documents.{id_of, is_design_id}
use Rattle.view_ports.specs.Exchanges.{Exchange, LeadsTo, lines_of}
use Rattle.view_ports.specs.Functions.{Functions}
use Rattle.design_docs.specs.History.{Write, last_write}
use Rattle.design_docs.specs.Revision.{revision, stored_document}
use Rattle.doc_file.specs.Content.{content}
use Rattle.view_model.specs.Standing.{IsDesignIn}
use Rattle.view_engine.specs.declared.request.Request.{Request}
use Rattle.view_engine.specs.declared.request.Request.TheVariants.{Put}
use Rattle.view_engine.specs.declared.refusal.Refusal.{Refusal}
use Rattle.view_engine.specs.Accepted.{after_request, is_ok}
use Rattle.view_engine.specs.Moments.{Moment}
use Rattle.view_engine.specs.Put.{put_write}
use Rattle.view_engine.specs.Refusals.{request_of}
use Rattle.view_engine.specs.Steps.{Answers}
use Rattle.view_engine.specs.World.{World}
use Rattle.view_engine.proofs.AcceptedWrites.{Answers-accepted}
use Rattle.load_lines.specs.Documents.{load_design}

-- ---- lists

-- exchanges whose lines are some and then others are in two parts
pub lines_split : (es : List Exchange) (xs ys : List (List ℕ)) → lines_of es ≡ xs ++ ys → (first second : List Exchange) × (es ≡ first ++ second) × (lines_of first ≡ xs) × (lines_of second ≡ ys)
lines_split es [] ys same = ([], es, refl, refl, same)
lines_split [] (x ∷ xs) ys same = absurd (let never : ⊥ = cc in never)
lines_split (e ∷ es) (x ∷ xs) ys same =
    let head : e.line ≡ x = cc in
    let tail : lines_of es ≡ xs ++ ys = cc in
    let rest = lines_split es xs ys tail in
    (e ∷ rest.0, rest.1, ap (λ (l : List Exchange). e ∷ l) rest.2, cc, rest.4)

-- and what leads through both goes through a state between
pub leads_split : {W : Type 0} (step : W → Exchange → W → Type 0) (before after : W) (xs ys : List Exchange) → LeadsTo step before (xs ++ ys) after → (mid : W) × LeadsTo step before xs mid × LeadsTo step mid ys after
leads_split step before after [] ys leads = (before, refl, leads)
leads_split step before after (x ∷ xs) ys leads = let rest = leads_split step leads.0 after xs ys leads.2 in (rest.0, (leads.0, leads.1, rest.1), rest.2)

-- ---- the load's design

design_of_load : List ℕ
design_of_load = codes "_design/load"

-- the design document as it is stored
abbrev pub stored_design : Json
stored_design = stored_document (content load_design) (revision 1 1)

abbrev pub design_write : Write
design_write = record { id = codes "_design/load"; document = Some stored_design }

-- the load's design document is the live one, and no other design was stored
pub record HasLoadDesign (history : List Write) : Type 0 where
  pub last : last_write history (codes "_design/load") ≡ Some design_write
  pub only : (document : Json) → IsDesignIn history document → document ≡ stored_design

contains_cons : (w : Write) (older : List Write) (v : Write) → Contains (w ∷ older) v → (w ≡ v) ⊎ Contains older v
contains_cons w older v (zero, within, is) = inl is
contains_cons w older v (suc k, within, is) = inr (k, omega (arith, within), is)

contains_none : (v : Write) → Contains [] v → ⊥
contains_none v has = omega (arith, has.1)

unsome : (x y : Json) → Some x ≡ Some y → x ≡ y
unsome x y same = cc

-- the design that a write stored
stored_by : (write : Write) (id : List ℕ) (document : Json) → write ≡ record { id = id; document = Some document } → write.document ≡ Some document
stored_by write id document same = ap (λ (w : Write). w.document) same

pub has_at_first : HasLoadDesign (design_write ∷ [])
has_at_first = record {
  last = refl;
  only = λ document is. elim (contains_cons design_write [] _ is.stored) [
    | inl same ↦ unsome document stored_design (sym (stored_by design_write is.id document same))
    | inr other ↦ absurd (contains_none _ other)
  ];
}

-- ids that differ
pub unlike : (a b : List ℕ) → a ≢ b → bytes_eq a b ≡ false
unlike a b differ = elim (cases_Bool (bytes_eq a b)) [
  | inl same ↦ absurd (differ ((bytes_eq-Decides a b).0 same))
  | inr other ↦ other
]

-- a write of another id leaves it
module _ (write : Write) (history : List Write) (plain : is_design_id write.id ≡ false) where
  other_id : bytes_eq (codes "_design/load") write.id ≡ false
  other_id = unlike (codes "_design/load") write.id (λ same. let never : true ≡ false = ap is_design_id same ∙ plain in absurd (cc))

  pub has_still : HasLoadDesign history → HasLoadDesign (write ∷ history)
  has_still has = record {
    last = ap (λ (b : Bool). if b then Some write else last_write history (codes "_design/load")) other_id ∙ has.last;
    only = λ document is. elim (contains_cons write history _ is.stored) [
      | inl same ↦ let never : true ≡ false = sym is.design ∙ ap (λ (w : Write). is_design_id w.id) (sym same) ∙ plain in absurd (cc)
      | inr older ↦ has.only document (record { id = is.id; design = is.design; stored = older })
    ];
  }

-- ---- requests

-- a put of a document that is no design document
pub record IsPlainPut (line : List ℕ) : Type 0 where
  pub members : List (List ℕ × Json)
  pub asks : request_of line ≡ Ok (Put members)
  pub plain : is_design_id (id_of (object (members_of members))) ≡ false

-- a request that writes no document
abbrev pub WritesNone : List ℕ → Type 0
WritesNone line = (world : World) → after_request world (request_of line) ≡ world

module _ (functions : List ℕ → Functions) (honest : List ℕ → Type 0) where
  by_ok : (world : World) (b : Bool) (after : World) → HasLoadDesign world.history → HasLoadDesign after.history → HasLoadDesign (if b then after else world).history
  by_ok world true after has then_ = then_
  by_ok world false after has then_ = has

  keeps_design : (before : Moment) (e : Exchange) (after : Moment) → Answers functions honest [] before e after → HasLoadDesign (before.world).history
      → HasLoadDesign (after_request before.world (request_of e.line)).history → HasLoadDesign (after.world).history
  keeps_design before e after answers has then_ =
      subst HasLoadDesign (sym (Answers-accepted functions honest [] before e after answers)) (by_ok before.world (is_ok e.text) (after_request before.world (request_of e.line)) has then_)

  pub put_keeps : (before : Moment) (e : Exchange) (after : Moment) → IsPlainPut e.line → Answers functions honest [] before e after → HasLoadDesign (before.world).history → HasLoadDesign (after.world).history
  put_keeps before e after put answers has =
      keeps_design before e after answers has (subst (λ (r : Result Request Refusal). HasLoadDesign (after_request before.world r).history) (sym put.asks)
      (has_still (put_write before.world (object (members_of put.members))) (before.world).history put.plain has))

  pub puts_keep : (before : Moment) (es : List Exchange) (after : Moment) → AllByRecursion IsPlainPut (lines_of es) → LeadsTo (Answers functions honest []) before es after → HasLoadDesign (before.world).history → HasLoadDesign (after.world).history
  puts_keep before [] after all same has = subst (λ (m : Moment). HasLoadDesign (m.world).history) (sym same) has
  puts_keep before (e ∷ es) after all leads has = puts_keep leads.0 es after all.1 leads.2 (put_keeps before e leads.0 all.0 leads.1 has)

  -- a request that writes no document leaves the history
  pub none_keeps : (before : Moment) (e : Exchange) (after : Moment) → WritesNone e.line → Answers functions honest [] before e after → (after.world).history ≡ (before.world).history
  none_keeps before e after none answers = Answers-accepted functions honest [] before e after answers ∙ by_bool (is_ok e.text)
    where
      by_bool : (b : Bool) → (if b then after_request before.world (request_of e.line) else before.world).history ≡ (before.world).history
      by_bool true = ap (λ (w : World). w.history) (none before.world)
      by_bool false = refl
