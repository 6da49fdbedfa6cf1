-- What the definitions of documents say together.
use Rattle.std.specs.Prelude.{◌≡◌, ◌++◌, ℕ, List, [], Some, take}
use Rattle.std.specs.List.{AllByRecursion}
use Rattle.json_terms.specs.Json.{Json}
use Rattle.view_ports.specs.File.{File, settled}
use Rattle.view_ports.specs.Disk.{IsImageOf}
use Rattle.view_ports.specs.declared.file_name.FileName.{FileName}
use Rattle.doc_file.specs.declared.docs.Docs.{Docs}
use Rattle.doc_file.specs.Accepted.{state_in, state_of}
use Rattle.doc_file.specs.Docs.{last_of, HoldsHistory, IsAt, IsDocsFile}
use Rattle.doc_file.specs.Held.{Stands}
use Rattle.doc_file.specs.Changes.{last_number}
use Rattle.design_docs.specs.History.{AreStored, IsStoredAs, Write, changes_after, live_document, mapped_after}

-- a crash leaves of open documents what stands for their history
abbrev pub ImagesStand : Type 0
ImagesStand = (docs : Docs) (files : FileName → File) (history : List Write) → IsAt docs files history → (image : FileName → List ℕ) → IsImageOf files image → Stands image history

-- documents at a history leave their files holding it
abbrev pub FilesHold : Type 0
FilesHold = (docs : Docs) (files : FileName → File) (history : List Write) → IsAt docs files history → HoldsHistory files history

-- what is kept of an id tells its state
abbrev pub StatesAreTold : Type 0
StatesAreTold = (docs : Docs) (files : FileName → File) (history : List Write) → IsAt docs files history → (id : List ℕ) → state_in (last_of docs id) ≡ state_of history id

-- a folder whose documents' files have no bytes, and of which nothing is pending, holds the history without writes
abbrev pub EmptyFoldersHoldNoWrites : Type 0
EmptyFoldersHoldNoWrites = (files : FileName → File) → ((name : FileName) → IsDocsFile name → files name ≡ settled []) → HoldsHistory files []

-- of a history whose documents can be stored each live document can be, and is of its id
abbrev pub LiveAreStored : Type 0
LiveAreStored = (history : List Write) → AreStored history → (id : List ℕ) (document : Json) → live_document history id ≡ Some document → IsStoredAs id document

-- and so is each that views map
abbrev pub MappedAreStored : Type 0
MappedAreStored = (history : List Write) → AreStored history → (seq : ℕ) → AllByRecursion (λ entry. IsStoredAs entry.0 entry.1) (mapped_after seq history)

-- what has changed may be listed page by page: behind the first n comes what was written after the last of their numbers
abbrev pub ChangesGoInPages : Type 0
ChangesGoInPages = (history : List Write) (seq n : ℕ)
    → changes_after seq history ≡ take n (changes_after seq history) ++ changes_after (last_number seq (take n (changes_after seq history))) history
