-- A world that goes on, and what a crash leaves meanwhile.
use Rattle.std.proofs.Common.{ℕ, List, Option, inl, inr}
use Rattle.view_ports.specs.Disk.{Disk, IfTold, IsImageOf, LeavesOnly, Tells}
use Rattle.view_ports.specs.Functions.{Functions}
use Rattle.view_ports.specs.declared.file_name.FileName.{FileName}
use Rattle.view_ports.proofs.Moments.{joined, started, weaker}
use Rattle.view_ports.proofs.Told.{told_after, told_all, told_back, told_given, told_map, told_now, told_pair, told_still, told_then}
use Rattle.view_engine.specs.Refusals.{request_of}
use Rattle.view_engine.specs.Updating.{IsSound}
use Rattle.view_engine.specs.World.{World}
use Rattle.view_engine.specs.Worlds.{GoesOnFrom, IsBetween, StandsAround, StandsEither, StandsFor}
use Rattle.view_engine.proofs.Sound.{between_sound, made_sound}
use Rattle.view_engine.proofs.Worlds.{goes_on, grown_as, grows_as, same_world}
use Rattle.couchview_cli.specs.Serving.{StandsSince, StandsSinceWith}
use Rattle.couchview_cli.specs.Session.{HasMoved, Origin}

abbrev pub Told : Type 0
Told = Option (Disk FileName)

module _ (functions : List ℕ → Functions) (honest : List ℕ → Type 0) (languages : List (List ℕ × List ℕ)) where
  abbrev Sound : World → Type 0
  Sound = IsSound functions honest languages

  abbrev Since : World → World → (FileName → List ℕ) → Type 0
  Since = StandsSince functions honest languages

  -- one world goes on from another, and its pictures stand where those of the other did
  abbrev pub GoesSoundly : World → World → Type 0
  GoesSoundly a b = GoesOnFrom a b × (Sound a → Sound b)

  soundly_same : (world : World) → GoesSoundly world world
  soundly_same world = (same_world world, λ sound. sound)

  soundly_on : (a b c : World) → GoesSoundly a b → GoesSoundly b c → GoesSoundly a c
  soundly_on a b c first second = (goes_on a b c first.0 second.0, λ sound. second.1 (first.1 sound))

  since_later : (opening world world' : World) (image : FileName → List ℕ) → GoesOnFrom world world' → Since opening world image → Since opening world' image
  since_later opening world world' image more since = (since.0, ((since.1).0, goes_on since.0 world world' (since.1).1 more, (since.1).2, (since.1).3))

  since_now : (opening world : World) (image : FileName → List ℕ) → GoesSoundly opening world → StandsFor image world → Since opening world image
  since_now opening world image from stands = (world, (from.0, same_world world, stands, from.1))

  -- a world between two goes on from all that the first goes on from, and so does what comes behind them
  goes_between : (opening before after mid : World) → IsBetween before after mid → GoesSoundly opening before → GoesSoundly opening mid
  goes_between opening before after mid between from = (grown_as opening before mid between.history between.known from.0, λ sound. between_sound functions honest languages before after mid between (from.1 sound))

  between_goes : (before after mid last : World) → IsBetween before after mid → GoesOnFrom before last → GoesOnFrom mid last
  between_goes before after mid last between more = grows_as before mid last between.history between.known more

  either_since : (opening before after : World) (image : FileName → List ℕ) → GoesSoundly opening before → GoesSoundly before after → StandsEither before after image → Since opening after image
  either_since opening before after image from more (inl (mid, between, stands)) =
      since_later opening mid after image (between_goes before after mid after between more.0) (since_now opening mid image (goes_between opening before after mid between from) stands)
  either_since opening before after image from more (inr stands) = since_now opening after image (soundly_on opening before after from more) stands

  around_since : (opening world : World) (line : List ℕ) (image : FileName → List ℕ) → GoesSoundly opening world → StandsAround functions honest languages world (request_of line) image
      → StandsSinceWith functions honest languages opening world line image
  around_since opening world line image from (inl stands) = inl (since_now opening world image from stands)
  around_since opening world line image from (inr made) =
      inr (made.0, made.1, made.2, λ sound. made_sound functions honest languages world (request_of line) made.0 made.1 (from.1 sound))

  before_since : (a b c : World) (image : FileName → List ℕ) → GoesSoundly a b → GoesOnFrom b c → StandsEither a b image → Since a c image
  before_since a b c image first rest (inl (mid, between, stands)) =
      let from = goes_between a a b mid between (soundly_same a) in
      (mid, (from.0, between_goes a b mid c between (goes_on a b c first.0 rest), stands, from.1))
  before_since a b c image first rest (inr stands) = (b, (first.0, rest, stands, first.1))

  later_since : (a b c : World) (image : FileName → List ℕ) → GoesSoundly a b → Since b c image → Since a c image
  later_since a b c image first since = (since.0, (goes_on a b since.0 first.0 (since.1).0, (since.1).1, (since.1).2, λ sound. (since.1).3 (first.1 sound)))

  -- how the world went on between two disks
  pub record WentOn (old new : Told) (a b : World) : Type 0 where
    pub grew : IfTold old (λ d. GoesSoundly a b)
    pub moments : Tells old new (LeavesOnly (Since a b))

  -- no line was answered
  pub went_nowhere : (disk : Told) (a : World) → IfTold disk (λ d. (image : FileName → List ℕ) → IsImageOf d.now image → StandsFor image a) → WentOn disk disk a a
  went_nowhere disk a images = record {
    grew = told_all disk (λ d. GoesSoundly a a) (λ d. soundly_same a);
    moments = told_still disk (λ d. (image : FileName → List ℕ) → IsImageOf d.now image → StandsFor image a) (LeavesOnly (Since a a))
        (λ d stands. started (Since a a) d (λ image is. since_now a a image (soundly_same a) (stands image is))) images;
  }

  -- a line was answered, and then others were
  pub went_before : (old mid new : Told) (a b c : World) → IfTold old (λ d. GoesSoundly a b) → Tells old mid (LeavesOnly (StandsEither a b)) → WentOn mid new b c → WentOn old new a c
  went_before old mid new a b c first either rest =
      let first_mid = told_after old mid (λ d. GoesSoundly a b) (λ d. GoesSoundly a b) (LeavesOnly (StandsEither a b)) (λ x y is leaves. is) first either in
      let rest_old = told_back old mid (λ d. GoesSoundly b c) (λ d. GoesSoundly b c) (LeavesOnly (StandsEither a b)) (λ x y leaves is. is) either rest.grew in
      let both = told_pair old (λ d. GoesSoundly a b) (λ d. GoesSoundly b c) (λ d. GoesSoundly a b × GoesSoundly b c) (λ d one other. (one, other)) first rest_old in
      let since = Since a c in
      record {
        grew = told_now old (λ d. GoesSoundly a b × GoesSoundly b c) (λ d. GoesSoundly a c) (λ d two. soundly_on a b c two.0 two.1) both;
        moments = told_then old mid new (LeavesOnly since) (LeavesOnly since) (LeavesOnly since) (λ x y z early late. joined since x y z early late)
            (told_given old mid (λ d. GoesSoundly a b × GoesSoundly b c) (LeavesOnly (StandsEither a b)) (LeavesOnly since)
            (λ x y two leaves. weaker (StandsEither a b) since x y (λ image stands. before_since a b c image two.0 (two.1).0 stands) leaves) both either)
            (told_given mid new (λ d. GoesSoundly a b) (LeavesOnly (Since b c)) (LeavesOnly since)
            (λ x y on leaves. weaker (Since b c) since x y (λ image stands. later_since a b c image on stands) leaves) first_mid rest.moments);
      }

-- ---- over the disks, from the origin of a session on

module _ (functions : List ℕ → Functions) (honest : List ℕ → Type 0) (origin : Origin) where
  abbrev From : World → World → Type 0
  From = GoesSoundly functions honest origin.languages

  abbrev SinceOpening : World → (FileName → List ℕ) → Type 0
  SinceOpening = StandsSince functions honest origin.languages origin.opening

  -- each image stands for the opening
  pub moved_start : (disk : Told) → Tells origin.disk disk (LeavesOnly (λ image. StandsFor image origin.opening)) → HasMoved functions honest origin disk origin.opening
  moved_start disk opened = record {
    grew = told_all origin.disk (λ d. GoesOnFrom origin.opening origin.opening) (λ d. same_world origin.opening);
    sound = told_all origin.disk (λ d. IsSound functions honest origin.languages origin.opening → IsSound functions honest origin.languages origin.opening) (λ d sound. sound);
    moments = told_map origin.disk disk (LeavesOnly (λ image. StandsFor image origin.opening)) (LeavesOnly (SinceOpening origin.opening))
        (λ a b leaves. weaker (λ image. StandsFor image origin.opening) (SinceOpening origin.opening) a b
        (λ image stands. since_now functions honest origin.languages origin.opening origin.opening image (soundly_same functions honest origin.languages origin.opening) stands) leaves)
        opened;
  }

  module _ (old new : Told) (before : World) (moved : HasMoved functions honest origin old before) where
    -- what is known of the disk before a line is known of the first disk
    pub told_first : (P : Type 0) → IfTold old (λ d. P) → IfTold origin.disk (λ d. P)
    told_first P known = told_back origin.disk old (λ d. P) (λ d. P) (LeavesOnly (SinceOpening before)) (λ a b leaves is. is) moved.moments known

    from_first : IfTold origin.disk (λ d. From origin.opening before)
    from_first = told_pair origin.disk (λ d. GoesOnFrom origin.opening before) (λ d. IsSound functions honest origin.languages origin.opening → IsSound functions honest origin.languages before) (λ d. From origin.opening before)
        (λ d grew sound. (grew, sound)) moved.grew moved.sound

    from_there : IfTold old (λ d. From origin.opening before)
    from_there = told_after origin.disk old (λ d. From origin.opening before) (λ d. From origin.opening before) (LeavesOnly (SinceOpening before)) (λ a b from leaves. from) from_first moved.moments

    -- a line was answered
    pub moved_line : (after : World) → IfTold old (λ d. From before after) → Tells old new (LeavesOnly (StandsEither before after)) → HasMoved functions honest origin new after
    moved_line after more moments =
        let since = SinceOpening before in
        let since' = SinceOpening after in
        let more_first = told_first (From before after) more in
        let whole = told_pair origin.disk (λ d. From origin.opening before) (λ d. From before after) (λ d. From origin.opening after)
        (λ d first second. soundly_on functions honest origin.languages origin.opening before after first second) from_first more_first in
        record {
          grew = told_now origin.disk (λ d. From origin.opening after) (λ d. GoesOnFrom origin.opening after) (λ d from. from.0) whole;
          sound = told_now origin.disk (λ d. From origin.opening after) (λ d. IsSound functions honest origin.languages origin.opening → IsSound functions honest origin.languages after) (λ d from. from.1) whole;
          moments = told_then origin.disk old new (LeavesOnly since') (LeavesOnly since') (LeavesOnly since') (λ a b c early late. joined since' a b c early late)
              (told_given origin.disk old (λ d. From before after) (LeavesOnly since) (LeavesOnly since')
              (λ a b on leaves. weaker since since' a b (λ image stands. since_later functions honest origin.languages origin.opening before after image on.0 stands) leaves)
              more_first moved.moments)
              (told_given old new (λ d. From origin.opening before × From before after) (LeavesOnly (StandsEither before after)) (LeavesOnly since')
              (λ a b on leaves. weaker (StandsEither before after) since' a b (λ image stands. either_since functions honest origin.languages origin.opening before after image on.0 on.1 stands) leaves)
              (told_pair old (λ d. From origin.opening before) (λ d. From before after) (λ d. From origin.opening before × From before after) (λ d first second. (first, second)) from_there more)
              moments);
        }

    -- a line was not answered
    pub moved_halted : (line : List ℕ) → Tells old new (LeavesOnly (StandsAround functions honest origin.languages before (request_of line)))
        → Tells origin.disk new (LeavesOnly (StandsSinceWith functions honest origin.languages origin.opening before line))
    moved_halted line moments =
        let since = SinceOpening before in
        let around = StandsAround functions honest origin.languages before (request_of line) in
        let with = StandsSinceWith functions honest origin.languages origin.opening before line in
        told_then origin.disk old new (LeavesOnly with) (LeavesOnly with) (LeavesOnly with) (λ a b c early late. joined with a b c early late)
        (told_map origin.disk old (LeavesOnly since) (LeavesOnly with) (λ a b leaves. weaker since with a b (λ image stands. inl stands) leaves) moved.moments)
        (told_given old new (λ d. From origin.opening before) (LeavesOnly around) (LeavesOnly with)
        (λ a b from leaves. weaker around with a b (λ image stands. around_since functions honest origin.languages origin.opening before line image from stands) leaves)
        from_there moments)
