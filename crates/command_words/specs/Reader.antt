-- How `clap` is told to read the words behind a command, and what it found.
use Rattle.std.specs.Prelude.{List, [], true, Option, Some, codes, map, unwrap_or, option_map}
use Rattle.std.specs.Borrow.{Bor}
use Rattle.clap.specs.Words.{App, Rule, first_value, found_of, matched_of, new_app, new_rule, raw_values, with_rule}
use Rattle.clap.specs.declared.parser.matches.ArgMatches.{ArgMatches}
use Rattle.clap.specs.declared.builder.action.ArgAction.TheVariants.{Set, Append}
use Rattle.command_words.specs.Commands.{Word}

-- the option `--width`, and the other words
abbrev pub width_rule : Rule
width_rule = record (new_rule (codes "width")) { long = Some (codes "width"); action = Some Set }

abbrev pub plain_rule : Rule
plain_rule = record (new_rule (codes "words")) { action = Some Append }

abbrev pub bare_reader : App
bare_reader = record (new_app (codes "couchview")) {
  top = record (new_app (codes "couchview")).top { no_binary_name = true; disable_help_flag = true };
}

abbrev pub reader : App
reader = with_rule (with_rule bare_reader width_rule) plain_rule

-- what was found of them
abbrev pub given_in : ArgMatches → Option Word
given_in matches = first_value (found_of matches) (codes "width")

abbrev pub texts_of : Option (Bor (List (Bor Word))) → List Word
texts_of words = unwrap_or (option_map (λ list. map (λ word. word.now) list.now) words) []

abbrev pub plain_in : ArgMatches → List Word
plain_in matches = unwrap_or (option_map raw_values (matched_of (found_of matches) (codes "words"))) []
