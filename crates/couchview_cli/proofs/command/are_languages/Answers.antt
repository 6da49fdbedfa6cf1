use Rattle.std.proofs.Common.{◌≤◌, length, sym, ◌∙◌, arith}
use Rattle.std.proofs.lemmas.Bool.{false≢true, leb-true}
use Rattle.std.proofs.lemmas.List.{length-map}
use Rattle.couchview_cli.proofs.Naming.{each_language, each_language_back}
use Rattle.couchview_cli.proofs.command.are_languages.Goals as goal
use Rattle.couchview_cli.proofs.command.are_languages.Goals.{then-words-le-LANGUAGES, else-words-le-LANGUAGES}

pub returns-then-all_languages : goal.returns-then-all_languages
returns-then-all_languages c =
    let words = c.args.words.now in
    elim c.if-words-le-LANGUAGES.branch [
      | then-words-le-LANGUAGES w ↦ (
        λ told. record {
          few = simp length-map (omega arith);
          each = each_language words (sym w.all_languages.ensures ∙ sym w.value-is ∙ c.if-all_languages.true);
          apart = c.are_apart.ensures.0 told;
        },
        λ are. c.are_apart.ensures.1 are.apart,
      )
      | else-words-le-LANGUAGES w ↦ let within : length words ≤ 8 = leb-true (length words) 8 (sym w.value-is ∙ c.if-all_languages.true) in absurd (omega arith)
    ]

pub returns-else-all_languages : goal.returns-else-all_languages
returns-else-all_languages c =
    let words = c.args.words.now in
    elim c.if-words-le-LANGUAGES.branch [
      | then-words-le-LANGUAGES w ↦ (λ told. absurd (false≢true (sym c.if-all_languages.false ∙ told)), λ are. w.value-is ∙ w.all_languages.ensures ∙ each_language_back words are.each)
      | else-words-le-LANGUAGES w ↦ (λ told. absurd (false≢true (sym c.if-all_languages.false ∙ told)), λ are. absurd (let few : length words ≤ 8 = simp length-map at are.few in omega arith))
    ]
