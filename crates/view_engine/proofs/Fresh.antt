-- The reply to a view on an honest path.
use Rattle.std.specs.Prelude.{if◌then◌else◌}
use Rattle.std.proofs.Common.{◌≡◌, ◌≢◌, ◌≤◌, ◌⊎◌, ◌∙◌, ℕ, List, [], ◌∷◌, Result, Ok, Bool, true, false, length, Option, Some, None, refl, sym, ap, subst, inl, inr, arith}
use Rattle.std.proofs.lemmas.Slice.Eq.{bytes_eq-Decides}
use Rattle.json_terms.specs.Json.{Json}
use Rattle.json_terms.specs.Text.{text_of}
use Rattle.json_terms.specs.declared.term.Row.{Row}
use Rattle.design_docs.specs.Design.{language_of, source_of, views_of}
use Rattle.design_docs.specs.declared.design.Reduce.{Reduce}
use Rattle.design_docs.specs.declared.design.Reduce.TheVariants.{Absent, Builtin, Source}
use Rattle.design_docs.specs.History.{Write, live_document}
use Rattle.child_pool.specs.Jobs.{Job, reduce_job}
use Rattle.child_pool.specs.Languages.{path_in}
use Rattle.query_args.specs.Query.{is_updated}
use Rattle.query_args.specs.declared.query.Query.{Query}
use Rattle.view_ports.specs.Calls.{Call}
use Rattle.view_ports.specs.Exchanges.{Exchange}
use Rattle.view_ports.specs.Faults.{RoseBy}
use Rattle.view_ports.specs.Functions.{Functions}
use Rattle.view_ports.specs.Lines.{ended}
use Rattle.view_model.specs.Answer.{answer, IsAnswer}
use Rattle.view_model.specs.Picture.{Picture, picture_or_none}
use Rattle.view_model.specs.Rows.{spoiled}
use Rattle.view_model.specs.Since.{first}
use Rattle.view_model.specs.Values.{IsValueText}
use Rattle.view_model.proofs.Firsts.{first_all, length-first}
use Rattle.view_model.proofs.OneAnswer.{one_answer, weaker_answer}
use Rattle.view_signature.specs.Signature.{signature_of}
use Rattle.view_engine.specs.declared.refusal.Refusal.{Refusal}
use Rattle.view_engine.specs.declared.refusal.Refusal.TheVariants.{CompilationError, NoMemory, ServerFault, ServerReply}
use Rattle.view_engine.specs.declared.request.Request.{Request}
use Rattle.view_engine.specs.Fresh.{due_reply, fresh_reply, named_answer, value_text, IsDueOrFault, IsHonestViewOfSound, IsRefusedWith, NamesFault, RepliesAreFresh, StepsAreFresh}
use Rattle.view_engine.specs.Moments.{Called, CalledReducing, Moment}
use Rattle.view_engine.specs.Refusals.{refusal_text, request_of}
use Rattle.view_engine.specs.Steps.{Does, DoesRequestText}
use Rattle.view_engine.specs.Updating.{picture_in, AreFit, IsBrought, IsSound}
use Rattle.view_engine.specs.View.{design_id, due_reduces, own_reduces, DoesKeptView, DoesUpdatedView, IsBroughtUp, IsMappedThen, IsMet, IsNever, IsRefused, IsRefusedReducing, IsRefusedWriting, IsRightly, PrintsRows}
use Rattle.view_engine.specs.ViewQuery.{ViewQuery, parameters_of, query_for, reduce_named, view_request}
use Rattle.view_engine.specs.World.{World, NoneIsNewer}

unsome : {A : Type 0} (x y : A) → Some x ≡ Some y → x ≡ y
unsome x y same = cc

-- ---- on an honest path the text of each value is known, and so is an answer

value_known : (functions : Functions) (honest : Type 0) (reduce : Reduce) → honest → (rows : List Row) (text : List ℕ) → IsValueText functions honest reduce rows text → text ≡ value_text functions reduce rows
value_known functions honest (Builtin kind) is_honest rows text is = is
value_known functions honest (Source source) is_honest rows text is = is.1 ∙ ap text_of (is.3 is_honest)
value_known functions honest Absent is_honest rows text is = absurd is

answer_known : (functions : Functions) (honest : Type 0) (reduce : Reduce) (query : Query) (seq : ℕ) (rows : List Row) (reply : List ℕ) → honest
    → IsAnswer (IsValueText functions honest reduce) query seq rows reply → reply ≡ answer (value_text functions reduce) query seq rows
answer_known functions honest reduce query seq rows reply is_honest is =
    one_answer (value_text functions reduce) query seq rows reply
    (weaker_answer (IsValueText functions honest reduce) (λ group own. own ≡ value_text functions reduce group) (value_known functions honest reduce is_honest) query seq rows reply is)

-- where no picture is newer than the history, that of a design isn't
seq_within : (world : World) (design : Json) → NoneIsNewer world → (picture_in world design).seq ≤ length world.history
seq_within world design newer =
    elim (world.pictures (signature_of design)) as (λ (p : Option Picture). world.pictures (signature_of design) ≡ p → (picture_or_none (views_of design) p).seq ≤ length world.history) [
      | None ↦ λ is. omega arith
      | Some picture ↦ λ is. newer (signature_of design) picture is
    ] refl

-- ---- the reply that is due, or a fault

-- two faults from a moment between are two from the first
fault_since : (before between after : Moment) (reply : List ℕ) → before.faults ≤ between.faults → NamesFault between after reply → NamesFault before after reply
fault_since before between after reply later names = let two = names.1 in (names.0, omega (arith, later, two))

-- an equal text is due as well
due_as : (due same : List ℕ) (before after : Moment) (reply : List ℕ) → due ≡ same → IsDueOrFault due before after reply → IsDueOrFault same before after reply
due_as due same before after reply are = subst (λ (text : List ℕ). IsDueOrFault text before after reply) are

module _ (functions : List ℕ → Functions) (honest : List ℕ → Type 0) (languages : List (List ℕ × List ℕ)) where
  -- ---- refusals

  -- one that is met on an honest path is a complaint, or it is a fault of the servers and two were counted
  complaint_or_fault : (name : ViewQuery) (job : Job) (before after : Moment) (added : List Call) (refusal : Refusal) → honest job.path → IsMet functions honest name job before after added refusal
      → (refusal ≡ CompilationError (design_id name.design)) ⊎ ((refusal ≡ ServerFault) × RoseBy 2 before.faults after.faults)
  complaint_or_fault name job before after added (CompilationError id) is_honest met = inl (ap (λ (i : List ℕ). CompilationError i) met.0)
  complaint_or_fault name job before after added ServerFault is_honest met = inr (refl, met)
  complaint_or_fault name job before after added (ServerReply line) is_honest met = absurd (met.1 is_honest)
  complaint_or_fault name job before after added other is_honest met = absurd met

  -- so where one is met as values are asked for, a complaint is printed, and what that means holds; or the reply names a fault
  complains : (name : ViewQuery) (path : List ℕ) (reduces : List (List ℕ)) (Complaint : Type 0) (before after : Moment) (reply : List ℕ) → honest path
      → CalledReducing path reduces before after (IsRefusedReducing functions honest name path reduces Complaint before after reply)
      → ((reply ≡ refusal_text (CompilationError (design_id name.design))) × Complaint) ⊎ NamesFault before after reply
  complains name path reduces Complaint before after reply is_honest called =
      let refused = called.holds in
      elim (complaint_or_fault name (reduce_job path reduces) before after called.added refused.refusal is_honest refused.met) [
        | inl is ↦ inl (refused.prints ∙ ap refusal_text is, refused.complaint (design_id name.design) is)
        | inr fault ↦ inr (refused.prints ∙ ap refusal_text fault.0, fault.1)
      ]

  -- ---- answers

  -- what is printed is the answer over the writes that the picture of the design has seen
  printed : (name : ViewQuery) (design : Json) (path source : List ℕ) (before after : World) (reply : List ℕ) → honest path → IsSound functions honest languages before → AreFit before.history
      → (picture_in after design).seq ≤ length before.history → PrintsRows functions honest languages name design path source before after reply
      → reply ≡ named_answer (functions path) (views_of design) name source (first (picture_in after design).seq before.history)
  printed name design path source before after reply is_honest sound fit within prints =
      let seq : ℕ = (picture_in after design).seq in
      let seen : List Write = first seq before.history in
      let reduce : Reduce = reduce_named name.view (views_of design) in
      let query : Query = query_for (views_of design) name in
      answer_known (functions path) (honest path) reduce query seq prints.rows reply is_honest prints.prints
      ∙ ap (λ (n : ℕ). answer (value_text (functions path) reduce) query n prints.rows) (sym (length-first seq before.history within))
      ∙ ap (λ (rows : List Row). answer (value_text (functions path) reduce) query (length seen) rows) (prints.afresh is_honest sound fit)

  -- ---- a view that is brought up to date

  module _ (before after : Moment) (name : ViewQuery) (reply : List ℕ) (does : DoesUpdatedView functions honest languages before name reply after) where
    abbrev design : Json
    design = does.design

    abbrev path : List ℕ
    path = (does.job).path

    abbrev world : World
    world = before.world

    -- as a reply is chosen
    abbrev either : Bool → List ℕ
    either complaint = if complaint then refusal_text (CompilationError (design_id name.design)) else named_answer (functions path) (views_of design) name does.source world.history

    abbrev Fresh : Type 0
    Fresh = IsDueOrFault (fresh_reply (functions path) (views_of design) name does.source world.history) before after reply

    complained : reply ≡ refusal_text (CompilationError (design_id name.design)) → spoiled (functions path) (views_of design) world.history ≡ true → Fresh
    complained prints is = inl (prints ∙ ap either (sym is))

    answered : reply ≡ named_answer (functions path) (views_of design) name does.source world.history → spoiled (functions path) (views_of design) world.history ≡ false → Fresh
    answered prints is = inl (prints ∙ ap either (sym is))

    module _ (is_honest : honest path) (sound : IsSound functions honest languages world) (fit : AreFit world.history) where
      while_mapping : Called does.job before after (IsRefused functions honest languages name design does.job before after reply) → Fresh
      while_mapping called =
          let refused = called.holds in
          elim (complaint_or_fault name does.job before after called.added refused.refusal is_honest refused.met) [
            | inl is ↦ complained (refused.prints ∙ ap refusal_text is) (refused.spoils (design_id name.design) is is_honest sound fit)
            | inr fault ↦ inr (refused.prints ∙ ap refusal_text fault.0, fault.1)
          ]

      tried : (mapped : Moment) → before.faults ≤ mapped.faults → IsRefusedWriting functions honest languages name design path world mapped after reply → Fresh
      tried mapped later refused =
          elim (complains name path (due_reduces design world) (IsRightly functions honest languages design path world) mapped after reply is_honest refused.called) [
            | inl both ↦ complained both.0 (both.1 is_honest sound fit)
            | inr names ↦ inr (fault_since before mapped after reply later names)
          ]

      shown : IsBrought functions honest languages design path world after.world → PrintsRows functions honest languages name design path does.source world after.world reply → Fresh
      shown brought prints =
          let history : List Write = world.history in
          let own : picture_in after.world design ≡ brought.next = ap (λ (p : Option Picture). picture_or_none (views_of design) p)
          (brought.set (signature_of design) ∙ ap (λ (b : Bool). if b then Some brought.next else (world.pictures (signature_of design))) ((bytes_eq-Decides (signature_of design) (signature_of design)).1 refl)) in
          let seq : (picture_in after.world design).seq ≡ length history = ap (λ (p : Picture). p.seq) own ∙ (brought.updated).seq in
          answered
          (printed name design path does.source world after.world reply is_honest sound fit (omega (arith, seq)) prints
          ∙ ap (λ (h : List Write). named_answer (functions path) (views_of design) name does.source h) (ap (λ (n : ℕ). first n history) seq ∙ first_all (length history) history (omega arith)))
          (brought.answerable is_honest sound fit)

      brought_up : (mapped : Moment) → before.faults ≤ mapped.faults → IsBroughtUp functions honest languages name design path does.source world mapped after reply → Fresh
      brought_up mapped later up =
          let still : before.faults ≤ (up.between).faults = omega (arith, later, (up.had).later) in
          elim up.answered [
            | inl both ↦ shown up.brought both.1
            | inr called ↦
                elim (complains name path (own_reduces name design after.world) (IsNever functions honest languages path world) up.between after reply is_honest called) [
                  | inl both ↦ absurd (both.1 is_honest sound fit)
                  | inr names ↦ inr (fault_since before up.between after reply still names)
                ]
          ]

      mapped_then : IsMappedThen functions honest languages name design does.job does.source before after reply → Fresh
      mapped_then then_ =
          let later = (then_.served).later in
          elim then_.ends [
            | inl refused ↦ tried then_.mapped later refused
            | inr up ↦ brought_up then_.mapped later up
          ]

      updated_fresh : Fresh
      updated_fresh = elim does.ends [
        | inl called ↦ while_mapping called
        | inr then_ ↦ mapped_then then_
      ]

  -- ---- a view that is read as it stands

  kept_fresh : (before after : Moment) (name : ViewQuery) (reply : List ℕ) (does : DoesKeptView functions honest languages before name reply after)
      → honest does.path → IsSound functions honest languages before.world → AreFit before.world.history
      → IsDueOrFault (named_answer (functions does.path) (views_of does.design) name does.source (first (picture_in before.world does.design).seq before.world.history)) before after reply
  kept_fresh before after name reply does is_honest sound fit =
      let world : World = before.world in
      let within : (picture_in world does.design).seq ≤ length world.history = seq_within world does.design (λ sig picture is. (sound fit).within sig picture is) in
      elim does.answered [
        | inl both ↦
            inl
            (printed name does.design does.path does.source world after.world reply is_honest sound fit
            (subst (λ (w : World). (picture_in w does.design).seq ≤ length world.history) (sym does.same) within) both.1
            ∙ ap (λ (w : World). named_answer (functions does.path) (views_of does.design) name does.source (first (picture_in w does.design).seq world.history)) does.same)
        | inr called ↦
            elim (complains name does.path (own_reduces name does.design after.world) (IsNever functions honest languages does.path world) before after reply is_honest called) [
              | inl both ↦ absurd (both.1 is_honest sound fit)
              | inr names ↦ inr names
            ]
      ]

  -- ---- either

  -- as the reply that is due is chosen
  abbrev chosen : (before : Moment) (name : ViewQuery) (design : Json) (path source : List ℕ) → Bool → List ℕ
  chosen before name design path source updates =
      if updates
      then fresh_reply (functions path) (views_of design) name source before.world.history
      else named_answer (functions path) (views_of design) name source (first (picture_in before.world design).seq before.world.history)

  -- the view that is answered is the one that is asked for
  of_own : (before after : Moment) (name : ViewQuery) (reply : List ℕ) (design : Json) (path source : List ℕ) → IsHonestViewOfSound functions honest languages before.world name design path source
      → (own : Json) (own_path own_source : List ℕ) → live_document before.world.history (design_id name.design) ≡ Some own → source_of name.view own ≡ Some own_source
      → path_in languages (language_of own) ≡ Some own_path → (honest own_path → IsDueOrFault (due_reply (functions own_path) before.world name own own_source) before after reply)
      → IsDueOrFault (due_reply (functions path) before.world name design source) before after reply
  of_own before after name reply design path source view own own_path own_source live source_is path_is due =
      let world : World = before.world in
      let same : own ≡ design = unsome _ _ (sym live ∙ view.live) in
      let same_path : own_path ≡ path = unsome _ _ (sym path_is ∙ ap (λ (d : Json). path_in languages (language_of d)) same ∙ view.path_is) in
      let same_source : own_source ≡ source = unsome _ _ (sym source_is ∙ ap (λ (d : Json). source_of name.view d) same ∙ view.source_is) in
      due_as (due_reply (functions own_path) world name own own_source) (due_reply (functions path) world name design source) before after reply
      (ap (λ (p : List ℕ). due_reply (functions p) world name own own_source) same_path
      ∙ ap (λ (d : Json). due_reply (functions path) world name d own_source) same
      ∙ ap (λ (s : List ℕ). due_reply (functions path) world name design s) same_source)
      (due (subst honest (sym same_path) view.is_honest))

  pub replies_are_fresh : RepliesAreFresh functions honest languages
  replies_are_fresh before after name reply (inl does) design path source view =
      let own : Bool → List ℕ = chosen before name does.design (does.job).path does.source in
      of_own before after name reply design path source view does.design (does.job).path does.source (does.is_job).live (does.is_job).source_is (does.is_job).path_is
      (λ is_honest. due_as (own true) (own (is_updated (parameters_of name))) before after reply (ap own (sym does.updates)) (updated_fresh before after name reply does is_honest view.sound view.fit))
  replies_are_fresh before after name reply (inr does) design path source view =
      let own : Bool → List ℕ = chosen before name does.design does.path does.source in
      of_own before after name reply design path source view does.design does.path does.source does.live does.source_is does.path_is
      (λ is_honest. due_as (own false) (own (is_updated (parameters_of name))) before after reply (ap own (sym does.keeps)) (kept_fresh before after name reply does is_honest view.sound view.fit))

  -- ---- a line of a run

  fresh_text : (before after : Moment) (exchange : Exchange) (name : ViewQuery) → DoesRequestText functions honest languages before (Ok (view_request name)) exchange.text after → (design : Json) (path source : List ℕ)
      → IsHonestViewOfSound functions honest languages before.world name design path source
      → (exchange.text ≡ ended (refusal_text NoMemory)) ⊎ IsRefusedWith functions honest languages before.world name exchange.text
      ⊎ ((reply : List ℕ) × (exchange.text ≡ ended reply) × IsDueOrFault (due_reply (functions path) before.world name design source) before after reply)
  fresh_text before after exchange name (reply, inl does, is) stored found source view = inr (inr (reply, is, replies_are_fresh before after name reply does stored found source view))
  fresh_text before after exchange name (reply, inr (refusal, refused, told), is) stored found source view = inr (inl (refusal, refused, is ∙ ap ended told.0))

  pub steps_are_fresh : StepsAreFresh functions honest languages
  steps_are_fresh before after exchange (inr gives_up) name some is stored found source view = inl gives_up.1
  steps_are_fresh before after exchange (inl does) name some is stored found source view =
      fresh_text before after exchange name
      (subst (λ (r : Result Request Refusal). DoesRequestText functions honest languages before r exchange.text after) is (does_line before exchange.line exchange.text after some does)) stored found source view
    where
      does_line : (before : Moment) (line text : List ℕ) (after : Moment) → line ≢ [] → Does functions honest languages before line text after → DoesRequestText functions honest languages before (request_of line) text after
      does_line before [] text after some does = absurd (some refl)
      does_line before (byte ∷ bytes) text after some does = does
