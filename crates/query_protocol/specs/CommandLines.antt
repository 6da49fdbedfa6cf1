-- The lines that a query server is sent.
use Rattle.std.specs.Prelude.{◌≡◌, ◌≢◌, ◌≤◌, ℕ, List, [], All}
use Rattle.json_terms.specs.Json.{Json, number, is_false, is_null, is_true, object, array, string, depth, members_of, list_of_members}
use Rattle.json_terms.specs.Text.{text_of}
use Rattle.view_ports.specs.declared.command.Command.{Command}
use Rattle.view_ports.specs.declared.command.Command.TheVariants.{Reset, AddFun, MapDoc, Reduce, Rereduce, Other}
use Rattle.view_ports.specs.Commands.{command, command_term, document_depth}
use Rattle.view_ports.specs.Functions.{IsSomeList}

-- the line of a command: its compact text
unfoldable pub command_line : Command → List ℕ
command_line c = text_of (command_term c)

-- commands that servers take: documents that aren't too deep, and lists that aren't empty
abbrev pub IsProperCommand : Command → Type 0
IsProperCommand Reset = Unit {0}
IsProperCommand (AddFun source) = Unit {0}
IsProperCommand (MapDoc document) = depth (object (members_of document)) ≤ document_depth
IsProperCommand (Reduce source rows) = IsSomeList rows
IsProperCommand (Rereduce source values) = IsSomeList values
IsProperCommand Other = ⊥

-- no newline stands in the line
abbrev pub IsWhole : List ℕ → Type 0
IsWhole line = All (λ byte. byte ≢ 10) line

-- the line is read as the command
abbrev pub ReadsBack : Command → Type 0
ReadsBack c = IsProperCommand c → command (command_line c) ≡ c

-- a document to map: an object that isn't too deep
pub record IsDocument (document : Json) : Type 0 where
  pub members : List (List ℕ × Json)
  pub is : document ≡ object (members_of members)
  pub shallow : depth document ≤ document_depth

abbrev pub document_of : Json → List (List ℕ × Json)
document_of (object ms) = list_of_members ms
document_of (number n) = []
document_of is_false = []
document_of is_null = []
document_of is_true = []
document_of (array ts) = []
document_of (string s) = []
