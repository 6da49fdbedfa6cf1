-- The pictures of a world stay true over what requests make of it.
use Rattle.std.proofs.Common.{◌≡◌, ℕ, List, [], ◌∷◌, Bool, true, false, Some, Result, Ok, Err, inl, inr, refl, sym, subst}
use Rattle.json_terms.specs.Json.{Json, members_of, object}
use Rattle.design_docs.specs.Design.{language_of, views_of}
use Rattle.view_ports.specs.Exchanges.{Exchange}
use Rattle.view_ports.specs.Functions.{Functions}
use Rattle.child_pool.specs.Languages.{path_in}
use Rattle.design_docs.specs.History.{Write, live_document}
use Rattle.view_model.specs.Standing.{IsDesignIn, PicturesStand}
use Rattle.view_model.proofs.Standing.{updates_keep_pictures, writes_keep_pictures}
use Rattle.view_signature.specs.Signature.{signature_of}
use Rattle.view_engine.specs.declared.refusal.Refusal.{Refusal}
use Rattle.view_engine.specs.declared.request.Request.{Request}
use Rattle.view_engine.specs.declared.request.Request.TheVariants.{Cleanup, Delete, Get, Info, Put, View}
use Rattle.view_engine.specs.Delete.{delete_write}
use Rattle.view_engine.specs.Moments.{Moment}
use Rattle.view_engine.specs.Put.{put_write}
use Rattle.view_engine.specs.Refusals.{request_of}
use Rattle.view_engine.specs.Steps.{Answers, AskedBy, Does, DoesRequest, Makes, MayHaveCalled, Performs}
use Rattle.view_engine.specs.Updating.{AreFit, IsBrought, IsSound}
use Rattle.view_engine.specs.View.{design_id, DoesView}
use Rattle.view_engine.specs.World.{World, written}
use Rattle.view_engine.specs.Worlds.{IsBetween}
use Rattle.view_engine.proofs.Signatures.{fit_before, fit_signed}
use Rattle.view_engine.proofs.Updated.{live_is_design}
use Rattle.view_engine.proofs.Between.{between_fewer, cleaned_fewer, partly_fewer, AreOfThem}
use Rattle.view_engine.specs.ViewQuery.{ViewQuery, parameters_in, view_query}
use Rattle.query_args.specs.Query.{is_updated}

-- ---- designs

-- the live document of a design's name is a design of the history
named_is_design : (history : List Write) (name : List ℕ) (design : Json) → live_document history (design_id name) ≡ Some design → IsDesignIn history design
named_is_design history name design live = live_is_design history (design_id name) design refl live

-- ---- worlds

module _ (functions : List ℕ → Functions) (honest : List ℕ → Type 0) (languages : List (List ℕ × List ℕ)) where
  abbrev Sound : World → Type 0
  Sound = IsSound functions honest languages

  pub written_sound : (world : World) (write : Write) → Sound world → Sound (written world write)
  written_sound world write sound = λ fit.
      writes_keep_pictures signature_of (λ document. path_in languages (language_of document)) views_of functions honest world.history write world.pictures
      (fit_signed languages (write ∷ world.history) fit) (sound (fit_before write world.history fit))

  pub brought_sound : (design : Json) (path : List ℕ) (before after : World) → IsDesignIn before.history design → path_in languages (language_of design) ≡ Some path
      → IsBrought functions honest languages design path before after → Sound before → Sound after
  brought_sound design path before after is leads brought sound = λ fit.
      let was : AreFit before.history = subst AreFit brought.history fit in
      subst (λ (h : List Write). PicturesStand signature_of (λ document. path_in languages (language_of document)) views_of functions honest h after.pictures) (sym brought.history)
      (updates_keep_pictures signature_of (λ document. path_in languages (language_of document)) views_of functions honest before.history design path brought.next before.pictures after.pictures
      (fit_signed languages before.history was) (sound was) is leads brought.updated (λ does. brought.answerable does sound was) brought.set)

  -- where some pictures are gone, the others stand
  fewer_sound : (before after : World) → after.history ≡ before.history → AreOfThem before.pictures after.pictures → Sound before → Sound after
  fewer_sound before after history fewer sound = λ fit.
      let stand = sound (subst AreFit history fit) in
      subst (λ (h : List Write). PicturesStand signature_of (λ document. path_in languages (language_of document)) views_of functions honest h after.pictures) (sym history) (record {
        within = λ sig picture is. stand.within sig picture (fewer sig picture is);
        owned = λ sig picture is. stand.owned sig picture (fewer sig picture is);
        shaped = λ sig picture document is. stand.shaped sig picture document (fewer sig picture is);
        are_true = λ sig picture document path is. stand.are_true sig picture document path (fewer sig picture is);
      })

  -- so a world between a sound one and another is sound
  pub between_sound : (before after mid : World) → IsBetween before after mid → Sound before → Sound mid
  between_sound before after mid between sound = fewer_sound before mid between.history (between_fewer before after mid between) sound

  -- what a request makes of a world is sound where that is
  pub made_sound : (world : World) (request : Result Request Refusal) (made : World) → Makes functions honest languages world request made → Sound world → Sound made
  made_sound world (Ok (View view query)) made makes sound = brought_sound makes.0 makes.1 world made (named_is_design world.history view.design makes.0 makes.3) makes.4 makes.5 sound
  made_sound world (Ok Cleanup) made makes sound = fewer_sound world made makes.history (partly_fewer world made makes) sound
  made_sound world (Ok (Put document)) made makes sound = subst Sound (sym makes.2) (written_sound world makes.0 sound)
  made_sound world (Ok (Delete id given)) made makes sound = subst Sound (sym makes.2) (written_sound world makes.0 sound)
  made_sound world (Ok other) made makes sound = absurd makes.1
  made_sound world (Err refusal) made makes sound = absurd makes.1

  same_sound : (before after : Moment) → after ≡ before → Sound before.world → Sound after.world
  same_sound before after same = subst (λ (m : Moment). Sound m.world) (sym same)

  view_sound : (before : Moment) (name : ViewQuery) (reply : List ℕ) (after : Moment) → DoesView functions honest languages before name reply after → Sound before.world → Sound after.world
  view_sound before name reply after (inr kept) sound = subst Sound (sym kept.same) sound
  view_sound before name reply after (inl does) sound = elim does.ends [
    | inl refused ↦ subst Sound (sym refused.holds.same) sound
    | inr mapped ↦ elim mapped.ends [
      | inl refused ↦ subst Sound (sym refused.same) sound
      | inr brought ↦ brought_sound does.design does.job.path before.world after.world (named_is_design (before.world).history name.design does.design does.is_job.live) does.is_job.path_is brought.brought sound
    ]
  ]

  performs_sound : (before : Moment) (request : Request) (reply : List ℕ) (after : Moment) → Performs functions honest languages before request reply after → Sound before.world → Sound after.world
  performs_sound before (Put document) reply after does sound =
      subst (λ (m : Moment). Sound m.world) (sym does.2) (subst Sound (sym (does.1).wrote) (written_sound before.world (put_write before.world (object (members_of document))) sound))
  performs_sound before (Delete id given) reply after does sound =
      subst (λ (m : Moment). Sound m.world) (sym does.2) (subst Sound (sym (does.1).wrote) (written_sound before.world (delete_write before.world id) sound))
  performs_sound before (Get id) reply after does sound = same_sound before after does.1 sound
  performs_sound before Info reply after does sound = same_sound before after does.1 sound
  performs_sound before Cleanup reply after does sound =
      subst (λ (m : Moment). Sound m.world) (sym does.2) (fewer_sound before.world does.0 (does.1).0.history (cleaned_fewer before.world does.0 (does.1).0) sound)
  performs_sound before (View view query) reply after does sound = view_sound before (view_query view query) reply after does sound
  performs_sound before other reply after does sound = absurd does

  request_sound : (before : Moment) (request : Result Request Refusal) (reply : List ℕ) (after : Moment) → DoesRequest functions honest languages before request reply after → Sound before.world → Sound after.world
  request_sound before (Ok request) reply after (inl does) sound = performs_sound before request reply after does sound
  request_sound before (Ok request) reply after (inr refused) sound = same_sound before after (refused.2).1 sound
  request_sound before (Err refusal) reply after does sound = same_sound before after does.1 sound

  does_sound : (before : Moment) (line text : List ℕ) (after : Moment) → Does functions honest languages before line text after → Sound before.world → Sound after.world
  does_sound before [] text after does sound = same_sound before after does.1 sound
  does_sound before (byte ∷ bytes) text after does sound = request_sound before (request_of (byte ∷ bytes)) does.0 after does.1 sound

  asked_sound : (updating : Bool) (before : Moment) (name : ViewQuery) (after : Moment) → AskedBy functions honest languages updating before name after → Sound before.world → Sound after.world
  asked_sound false before name after asked sound = subst Sound (sym asked.same) sound
  asked_sound true before name after asked sound = elim asked.ends [
    | inl mapping ↦ subst Sound (sym mapping.same) sound
    | inr later ↦ elim later [
      | inl trying ↦ subst Sound (sym trying.same) sound
      | inr showing ↦ brought_sound asked.design asked.job.path before.world after.world (named_is_design (before.world).history name.design asked.design asked.is_job.live) asked.is_job.path_is showing.brought sound
    ]
  ]

  called_sound : (before : Moment) (request : Result Request Refusal) (after : Moment) → MayHaveCalled functions honest languages before request after → Sound before.world → Sound after.world
  called_sound before (Ok (View view query)) after (inl same) sound = same_sound before after same sound
  called_sound before (Ok (View view query)) after (inr asked) sound = asked_sound (is_updated (parameters_in query)) before (view_query view query) after asked.1 sound
  called_sound before other after same sound = same_sound before after same sound

  -- and so is the world after a step of a run
  pub answers_sound : (before : Moment) (e : Exchange) (after : Moment) → Answers functions honest languages before e after → Sound before.world → Sound after.world
  answers_sound before e after (inl does) sound = does_sound before e.line e.text after does sound
  answers_sound before e after (inr gave_up) sound = called_sound before (request_of e.line) after gave_up.2 sound
