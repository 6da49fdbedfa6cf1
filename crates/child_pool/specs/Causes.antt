-- Why a reply is bad.
use Rattle.std.specs.Prelude.{◌≡◌, ◌⊎◌, ◌≤◌, ℕ, List, true, None}
use Rattle.view_ports.specs.declared.command.Command.{Command}
use Rattle.view_ports.specs.declared.command.Command.TheVariants.{Reset, AddFun, MapDoc, Reduce, Rereduce, Other}
use Rattle.view_ports.specs.Calls.{is_log}
use Rattle.view_ports.specs.Honest.{log_limit}
use Rattle.query_protocol.specs.declared.reply.Kind.{Kind}
use Rattle.query_protocol.specs.declared.reply.Kind.TheVariants as kind
use Rattle.query_protocol.specs.Replies.{reply_of}

-- the kind of the answer to a command, where so many sources were added
abbrev pub kind_of : Command → ℕ → Kind
kind_of Reset count = kind.Reset
kind_of (AddFun source) count = kind.Source
kind_of (MapDoc document) count = kind.Rows count
kind_of (Reduce source rows) count = kind.Value
kind_of (Rereduce source values) count = kind.Value
kind_of Other count = kind.Reset

-- the line is no proper reply to the command, or one log line too many
abbrev pub IsBadReply : Command → ℕ → ℕ → List ℕ → Type 0
IsBadReply asked count logs line = (reply_of (kind_of asked count) line ≡ None) ⊎ ((is_log line ≡ true) × (log_limit ≤ logs))
