-- What a command says, of the words that ask for it.
use Rattle.std.specs.Prelude.{String, map, string_bytes}
use Rattle.std.specs.declared.alloc.Global.{Global}
use Rattle.std.proofs.Common.{◌≡◌, ◌∙◌, ℕ, List, [], inl, inr, sym, ap, subst}
use Rattle.child_pool.specs.Languages.{languages_in}
use Rattle.command_words.specs.declared.command.Command.TheVariants.{Load, Serve}
use Rattle.couchview_cli.specs.Command.{languages_named}
use Rattle.couchview_cli.specs.Loading.{AnswersLoad, Loads}
use Rattle.couchview_cli.specs.Reading.{AnswersLines}
use Rattle.couchview_cli.specs.Serving.{outside, AreLeft, Begins, Serves}
use Rattle.couchview_cli.proofs.Called.{found_as, is_serve, languages_of, not_both, one_load}
use Rattle.couchview_cli.proofs.LoadStatus.{whole_load}
use Rattle.couchview_cli.proofs.Statuses.{limited, Serves-complete}
use Rattle.couchview_cli.proofs.NoWords.{unread_folder, unread_lines, unread_nothing}
use Rattle.couchview_cli.proofs.command.couchview.Goals as goal

pub returns-in-Ok-None-clause-complete : goal.returns-in-Ok-None-clause-complete
returns-in-Ok-None-clause-complete g c = λ kept asks opening begins short source_stays sink_stays disk_stays roomy apart. absurd (c.to_do.ensures.none (cc) (Serve 1 kept, asks))

pub returns-in-Err-clause-serves : goal.returns-in-Err-clause-serves
returns-in-Err-clause-serves g c = λ kept asks opening begins.
    let ports = outside g.S.Source g.K.Sink g.F.Folder g.C.Servers c.args.source.now c.args.sink.now c.args.folder.now c.args.servers.now in
    subst (Serves g.C.Servers.functions g.C.Servers.honest (languages_named kept) opening ports ports (AreLeft (g.C.Servers.may_follow c.args.servers.now))) (sym c.status.ensures)
    (inr (inr (inl (unread_folder g.C.Servers.functions g.C.Servers.honest (languages_named kept) opening ports (g.C.Servers.may_follow c.args.servers.now) c.requires begins.holds))))

pub returns-in-Err-clause-loads : goal.returns-in-Err-clause-loads
returns-in-Err-clause-loads g c = λ docs number asks opening begins.
    let ports = outside g.S.Source g.K.Sink g.F.Folder g.C.Servers c.args.source.now c.args.sink.now c.args.folder.now c.args.servers.now in
    subst (Loads g.C.Servers.functions g.C.Servers.honest docs number opening ports ports (AreLeft (g.C.Servers.may_follow c.args.servers.now))) (sym c.status.ensures)
    (inr (inr (unread_folder g.C.Servers.functions g.C.Servers.honest [] opening ports (g.C.Servers.may_follow c.args.servers.now) c.requires begins.holds)))

pub returns-in-Err-clause-lines : goal.returns-in-Err-clause-lines
returns-in-Err-clause-lines g c = λ serve.
    let ports = outside g.S.Source g.K.Sink g.F.Folder g.C.Servers c.args.source.now c.args.sink.now c.args.folder.now c.args.servers.now in
    subst (AnswersLines ports ports) (sym c.status.ensures) (unread_lines ports)

pub returns-in-Serve-clause-serves : goal.returns-in-Serve-clause-serves
returns-in-Serve-clause-serves g c = λ kept asks opening begins.
    let ports = outside g.S.Source g.K.Sink g.F.Folder g.C.Servers in
    let words = c.args.words.now in
    let own = found_as words c.in-Ok-Some.field-0 c.in-Ok-Some.command (Serve c.in-Serve.width c.in-Serve.words) c.in-Ok-Some.field-0-is c.in-Serve.is c.in-Ok-Some.ensures.some in
    let same : languages_in (map string_bytes c.deref.result.now) ≡ languages_named kept = ap (λ (named : List (String Global)). languages_in (map string_bytes named)) c.deref.ensures.value ∙ languages_of words c.in-Serve.width c.in-Serve.words kept own asks in
    subst (λ (ls : List (List ℕ × List ℕ)). Serves g.C.Servers.functions g.C.Servers.honest ls opening (ports c.args.source.now c.args.sink.now c.args.folder.now c.args.servers.now) (ports c.serve.new.source c.serve.new.sink c.serve.new.folder c.serve.new.servers) (AreLeft (g.C.Servers.may_follow c.serve.new.servers)) c.serve.result) same
    (c.serve.ensures.serves opening (subst (λ (ls : List (List ℕ × List ℕ)). Begins g.C.Servers.functions g.C.Servers.honest ls (g.F.Folder.disk c.args.folder.now) opening) (sym same) begins))

pub returns-in-Serve-clause-ended : goal.returns-in-Serve-clause-ended
returns-in-Serve-clause-ended g c = λ none.
    let own = found_as c.args.words.now c.in-Ok-Some.field-0 c.in-Ok-Some.command (Serve c.in-Serve.width c.in-Serve.words) c.in-Ok-Some.field-0-is c.in-Serve.is c.in-Ok-Some.ensures.some in
    inr (is_serve c.args.words.now c.in-Serve.width c.in-Serve.words own, c.serve.ensures.ended none)

pub returns-in-Serve-clause-disk_failed : goal.returns-in-Serve-clause-disk_failed
returns-in-Serve-clause-disk_failed g c = λ three.
    let own = found_as c.args.words.now c.in-Ok-Some.field-0 c.in-Ok-Some.command (Serve c.in-Serve.width c.in-Serve.words) c.in-Ok-Some.field-0-is c.in-Serve.is c.in-Ok-Some.ensures.some in
    ((Serve c.in-Serve.width c.in-Serve.words, own), c.serve.ensures.disk_failed three)

pub returns-in-Serve-clause-source_failed : goal.returns-in-Serve-clause-source_failed
returns-in-Serve-clause-source_failed g c = λ five.
    let own = found_as c.args.words.now c.in-Ok-Some.field-0 c.in-Ok-Some.command (Serve c.in-Serve.width c.in-Serve.words) c.in-Ok-Some.field-0-is c.in-Serve.is c.in-Ok-Some.ensures.some in
    (is_serve c.args.words.now c.in-Serve.width c.in-Serve.words own, c.serve.ensures.source_failed five)

pub returns-in-Serve-clause-limit : goal.returns-in-Serve-clause-limit
returns-in-Serve-clause-limit g c = λ serve.
    let ports = outside g.S.Source g.K.Sink g.F.Folder g.C.Servers in
    limited (ports c.args.source.now c.args.sink.now c.args.folder.now c.args.servers.now) (ports c.serve.new.source c.serve.new.sink c.serve.new.folder c.serve.new.servers) c.serve.result c.serve.ensures.lines

pub returns-in-Serve-clause-complete : goal.returns-in-Serve-clause-complete
returns-in-Serve-clause-complete g c = λ kept asks opening begins short source_stays sink_stays disk_stays roomy apart.
    let ports = outside g.S.Source g.K.Sink g.F.Folder g.C.Servers in
    let words = c.args.words.now in
    let own = found_as words c.in-Ok-Some.field-0 c.in-Ok-Some.command (Serve c.in-Serve.width c.in-Serve.words) c.in-Ok-Some.field-0-is c.in-Serve.is c.in-Ok-Some.ensures.some in
    let same : languages_in (map string_bytes c.deref.result.now) ≡ languages_named kept = ap (λ (named : List (String Global)). languages_in (map string_bytes named)) c.deref.ensures.value ∙ languages_of words c.in-Serve.width c.in-Serve.words kept own asks in
    Serves-complete (ports c.args.source.now c.args.sink.now c.args.folder.now c.args.servers.now) (ports c.serve.new.source c.serve.new.sink c.serve.new.folder c.serve.new.servers) c.serve.result same (c.serve.ensures.serves opening (subst (λ (ls : List (List ℕ × List ℕ)). Begins g.C.Servers.functions g.C.Servers.honest ls (g.F.Folder.disk c.args.folder.now) opening) (sym same) begins))
    short (λ three. disk_stays (c.serve.ensures.disk_failed three)) (λ four. sink_stays (c.serve.ensures.sink_failed four)) (λ five. source_stays (c.serve.ensures.source_failed five)) roomy apart

pub returns-in-Serve-clause-loads : goal.returns-in-Serve-clause-loads
returns-in-Serve-clause-loads g c = λ docs number asks opening begins.
    let own = found_as c.args.words.now c.in-Ok-Some.field-0 c.in-Ok-Some.command (Serve c.in-Serve.width c.in-Serve.words) c.in-Ok-Some.field-0-is c.in-Serve.is c.in-Ok-Some.ensures.some in
    absurd (not_both c.args.words.now docs number c.in-Serve.width c.in-Serve.words asks own)

pub returns-in-Serve-clause-whole : goal.returns-in-Serve-clause-whole
returns-in-Serve-clause-whole g c = λ docs number asks opening begins sink_stays disk_stays roomy.
    let own = found_as c.args.words.now c.in-Ok-Some.field-0 c.in-Ok-Some.command (Serve c.in-Serve.width c.in-Serve.words) c.in-Ok-Some.field-0-is c.in-Serve.is c.in-Ok-Some.ensures.some in
    absurd (not_both c.args.words.now docs number c.in-Serve.width c.in-Serve.words asks own)

pub returns-in-Serve-clause-unread : goal.returns-in-Serve-clause-unread
returns-in-Serve-clause-unread g c = λ none.
    let own = found_as c.args.words.now c.in-Ok-Some.field-0 c.in-Ok-Some.command (Serve c.in-Serve.width c.in-Serve.words) c.in-Ok-Some.field-0-is c.in-Serve.is c.in-Ok-Some.ensures.some in
    absurd (none (is_serve c.args.words.now c.in-Serve.width c.in-Serve.words own))

pub returns-in-Serve-clause-too_long : goal.returns-in-Serve-clause-too_long
returns-in-Serve-clause-too_long g c = λ eight.
    let own = found_as c.args.words.now c.in-Ok-Some.field-0 c.in-Ok-Some.command (Serve c.in-Serve.width c.in-Serve.words) c.in-Ok-Some.field-0-is c.in-Serve.is c.in-Ok-Some.ensures.some in
    is_serve c.args.words.now c.in-Serve.width c.in-Serve.words own

pub returns-in-Ok-None-clause-whole : goal.returns-in-Ok-None-clause-whole
returns-in-Ok-None-clause-whole g c = λ docs number asks opening begins sink_stays disk_stays roomy. absurd (c.to_do.ensures.none (cc) (Load docs number, asks))

pub returns-in-Err-clause-answers : goal.returns-in-Err-clause-answers
returns-in-Err-clause-answers g c = λ docs number asks.
    let ports = outside g.S.Source g.K.Sink g.F.Folder g.C.Servers c.args.source.now c.args.sink.now c.args.folder.now c.args.servers.now in
    subst (AnswersLoad docs number ports ports) (sym c.status.ensures) (inr (inr (inr (unread_nothing ports))))

-- ---- a load

pub returns-clause-loads : goal.returns-clause-loads
returns-clause-loads g c = λ docs number asks opening begins.
    let own = found_as c.args.words.now c.in-Ok-Some.field-0 c.in-Ok-Some.command (Load c.in-Load.docs c.in-Load.number) c.in-Ok-Some.field-0-is c.in-Load.is c.in-Ok-Some.ensures.some in
    let ports = outside g.S.Source g.K.Sink g.F.Folder g.C.Servers in
    let before = ports c.args.source.now c.args.sink.now c.args.folder.now c.args.servers.now in
    let after = ports c.args.source.now c.load.new.sink c.load.new.folder c.load.new.servers in
    let same = one_load c.args.words.now c.in-Load.docs c.in-Load.number docs number own asks in
    let Does = λ (d n : ℕ). Loads g.C.Servers.functions g.C.Servers.honest d n opening before after (AreLeft (g.C.Servers.may_follow c.load.new.servers)) c.load.result in
    subst (λ (n : ℕ). Does docs n) same.1 (subst (λ (d : ℕ). Does d c.in-Load.number) same.0 (c.load.ensures.loads (g.S.Source.left c.args.source.now) opening begins))

pub returns-clause-answers : goal.returns-clause-answers
returns-clause-answers g c = λ docs number asks.
    let own = found_as c.args.words.now c.in-Ok-Some.field-0 c.in-Ok-Some.command (Load c.in-Load.docs c.in-Load.number) c.in-Ok-Some.field-0-is c.in-Load.is c.in-Ok-Some.ensures.some in
    let ports = outside g.S.Source g.K.Sink g.F.Folder g.C.Servers in
    let before = ports c.args.source.now c.args.sink.now c.args.folder.now c.args.servers.now in
    let after = ports c.args.source.now c.load.new.sink c.load.new.folder c.load.new.servers in
    let same = one_load c.args.words.now c.in-Load.docs c.in-Load.number docs number own asks in
    subst (λ (n : ℕ). AnswersLoad docs n before after c.load.result) same.1 (subst (λ (d : ℕ). AnswersLoad d c.in-Load.number before after c.load.result) same.0 (c.load.ensures.answers (g.S.Source.left c.args.source.now)))

pub returns-clause-whole : goal.returns-clause-whole
returns-clause-whole g c = λ docs number asks opening begins sink_stays disk_stays roomy.
    let own = found_as c.args.words.now c.in-Ok-Some.field-0 c.in-Ok-Some.command (Load c.in-Load.docs c.in-Load.number) c.in-Ok-Some.field-0-is c.in-Load.is c.in-Ok-Some.ensures.some in
    let ports = outside g.S.Source g.K.Sink g.F.Folder g.C.Servers in
    let before = ports c.args.source.now c.args.sink.now c.args.folder.now c.args.servers.now in
    let after = ports c.args.source.now c.load.new.sink c.load.new.folder c.load.new.servers in
    let same = one_load c.args.words.now c.in-Load.docs c.in-Load.number docs number own asks in
    let Does = λ (d n : ℕ). Loads g.C.Servers.functions g.C.Servers.honest d n opening before after (AreLeft (g.C.Servers.may_follow c.load.new.servers)) c.load.result in
    whole_load g.C.Servers.functions g.C.Servers.honest docs number opening before after (AreLeft (g.C.Servers.may_follow c.load.new.servers)) c.load.result (λ three. disk_stays (c.load.ensures.disk_failed three)) (λ four. sink_stays (c.load.ensures.sink_failed four)) roomy
    (subst (λ (n : ℕ). Does docs n) same.1 (subst (λ (d : ℕ). Does d c.in-Load.number) same.0 (c.load.ensures.loads (g.S.Source.left c.args.source.now) opening begins)))
