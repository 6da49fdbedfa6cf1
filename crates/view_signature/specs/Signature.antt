-- The signature of a design: hexadecimal digits of an MD5 digest (RFC 1321).
use Rattle.std.specs.Prelude.{◌≡◌, ℕ, List}
use Rattle.hex.specs.Hex.{encode_lower}
use Rattle.md5.specs.Md5.{md5}
use Rattle.json_terms.specs.Json.{Json}
use Rattle.json_terms.specs.Text.{text_of}
use Rattle.design_docs.specs.Design.{design_term, language_of, views_object}

-- the digest of a value's text, in lowercase digits
abbrev pub digest_of : Json → List ℕ
digest_of value = encode_lower (md5 (text_of value))

-- the signature of a document's design: the digest of `[language, views]`
abbrev pub signature_of : Json → List ℕ
signature_of document = digest_of (design_term document)

-- two documents with equal languages and equal views have equal signatures
abbrev pub HaveEqualSignatures : Json → Json → Type 0
HaveEqualSignatures one other = language_of one ≡ language_of other → views_object one ≡ views_object other → signature_of one ≡ signature_of other
