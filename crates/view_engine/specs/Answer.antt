-- The replies that print what was asked for, but for those to views.
use Rattle.std.specs.Prelude.{ℕ, List, ◌++◌, codes, decimal}
use Rattle.json_terms.specs.Json.{string}
use Rattle.json_terms.specs.Text.{text_of}
use Rattle.doc_file.specs.declared.docs.Info.{Info}

-- the counts of the documents
abbrev pub info_text : Info → List ℕ
info_text info =
    codes "{\"doc_count\":" ++ decimal info.doc_count ++ codes ",\"doc_del_count\":" ++ decimal info.doc_del_count ++ codes ",\"update_seq\":" ++ decimal info.update_seq ++ codes "}"

-- an accepted write
abbrev pub write_text : List ℕ → List ℕ → List ℕ
write_text id rev = codes "{\"ok\":true,\"id\":" ++ text_of (string id) ++ codes ",\"rev\":\"" ++ rev ++ codes "\"}"
