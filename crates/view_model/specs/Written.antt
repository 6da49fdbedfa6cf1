-- A reply in the making.
use Rattle.std.specs.Prelude.{◌≡◌, ℕ, List, ◌++◌, drop, take}
use Rattle.view_model.specs.declared.reply.Reply.{Reply}

-- the bytes before it
abbrev pub before_of : Reply → List ℕ
before_of reply = take reply.start reply.bytes.items

-- what is written of it
abbrev pub written_of : Reply → List ℕ
written_of reply = drop reply.start reply.bytes.items

-- this was written of it
abbrev pub Adds : Reply → Reply → List ℕ → Type 0
Adds old new text = written_of new ≡ written_of old ++ text

-- and the bytes before it are as they were
abbrev pub KeepsBefore : Reply → Reply → Type 0
KeepsBefore old new = before_of new ≡ before_of old
