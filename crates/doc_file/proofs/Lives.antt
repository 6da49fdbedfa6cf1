-- The document that is live under an id: there is one at most, and the id's last write is no deletion.
use Rattle.std.proofs.Common.{◌≡◌, ℕ, List, Option, Some, None}
use Rattle.json_terms.specs.Json.{Json}
use Rattle.doc_file.specs.declared.entry.LastWrite.{LastWrite}
use Rattle.doc_file.specs.Designs.{IsLiveEntry}
use Rattle.doc_file.specs.Docs.{IsLive}
use Rattle.doc_file.proofs.Since.{one_body}

pub live_entry : (id bytes : List ℕ) (last : Option LastWrite) (document : Json) → IsLive id bytes last document → IsLiveEntry last
live_entry id bytes None document live = live
live_entry id bytes (Some last) document live = live.0

pub one_live : (id bytes : List ℕ) (last : Option LastWrite) (t u : Json) → IsLive id bytes last t → IsLive id bytes last u → t ≡ u
one_live id bytes None t u one two = absurd one
one_live id bytes (Some last) t u one two = one_body id bytes id last t u one.1 two.1
