-- The replies to lines, as they are cut from what was written.
use Rattle.std.specs.Prelude.{nat_lt, slice_index_or}
use Rattle.std.proofs.Common.{◌≡◌, ◌≢◌, ◌⊎◌, ◌<◌, ◌∙◌, ◌++◌, ℕ, List, [], ◌∷◌, All, map, length, Option, Some, inl, inr, refl, sym, ap, subst, arith, append_assoc, append-nil, length-append, true, Bor}
use Rattle.std.specs.List.{AllByRecursion, flat_map}
use Rattle.std.specs.Io.KnownBytes.{Consumes, IsAtEnd}
use Rattle.std.proofs.KnownBytes.{Consumes-all}
use Rattle.std.proofs.lemmas.Bool.{ltb-true}
use Rattle.std.proofs.lemmas.List.{append_cancel_right, get_or-map, length-map}
use Rattle.std.proofs.lemmas.Grind.{flat_map-append}
use Rattle.std.proofs.lemmas.List.Elements.{All-cons, All-nil, All-push}
use Rattle.view_ports.specs.Exchanges.{Exchange, LeadsTo, lines_of, text_of}
use Rattle.view_ports.specs.Lines.{IsCut, IsLine, ended, last_line, newline}
use Rattle.view_ports.specs.Runs.{Run}
use Rattle.view_ports.specs.declared.run_end.RunEnd.TheVariants.{InputEnded}
use Rattle.view_ports.proofs.Cutting.{IsCut-unique, IsLine-nil}
use Rattle.view_engine.specs.declared.refusal.Refusal.TheVariants.{NoMemory as OutOfMemory}
use Rattle.view_engine.specs.Refusals.{refusal_text}
use Rattle.couchview_cli.specs.Replied.{IsReplied}
use Rattle.couchview_cli.specs.Loading.{reply_to, HasWant, NoneWants}
use Rattle.couchview_cli.specs.Showing.{NoLineWants, NoneIsWant, reply_at}

-- each exchange was answered with one of these lines
abbrev pub AreAnswers : List Exchange → List (List ℕ) → Type 0
AreAnswers [] [] = Unit {0}
AreAnswers [] (reply ∷ replies) = ⊥
AreAnswers (e ∷ es) [] = ⊥
AreAnswers (e ∷ es) (reply ∷ replies) = (e.text ≡ ended reply) × IsLine reply × AreAnswers es replies

-- where each step is answered with a line, and no line is empty
pub answers_of : {W : Type 0} (step : W → Exchange → W → Type 0) → ((a : W) (e : Exchange) (b : W) → step a e b → IsReplied e.line e.text) → (before after : W) (es : List Exchange)
    → AllByRecursion (λ line. line ≢ []) (lines_of es) → LeadsTo step before es after → (replies : List (List ℕ)) × AreAnswers es replies
answers_of step replied before after [] some leads = ([], tt)
answers_of step replied before after (e ∷ es) some leads =
    let reply = (replied before e leads.0 leads.1).some some.0 in
    let rest = answers_of step replied leads.0 after es some.1 leads.2 in
    (reply.0 ∷ rest.0, (reply.2, (reply.1).plain, rest.1))

answers_text : (es : List Exchange) (replies : List (List ℕ)) → AreAnswers es replies → text_of es ≡ flat_map ended replies
answers_text [] [] are = refl
answers_text [] (reply ∷ replies) are = absurd are
answers_text (e ∷ es) [] are = absurd are
answers_text (e ∷ es) (reply ∷ replies) are = ap (λ (t : List ℕ). t ++ text_of es) are.0 ∙ ap (λ (t : List ℕ). ended reply ++ t) (answers_text es replies are.2)

answers_map : (es : List Exchange) (replies : List (List ℕ)) → AreAnswers es replies → map (λ e. e.text) es ≡ map ended replies
answers_map [] [] are = refl
answers_map [] (reply ∷ replies) are = absurd are
answers_map (e ∷ es) [] are = absurd are
answers_map (e ∷ es) (reply ∷ replies) are = ap (λ (t : List ℕ). t ∷ map (λ x. x.text) es) are.0 ∙ ap (λ (ts : List (List ℕ)). ended reply ∷ ts) (answers_map es replies are.2)

answers_lines : (es : List Exchange) (replies : List (List ℕ)) → AreAnswers es replies → All IsLine replies
answers_lines [] [] are = All-nil IsLine
answers_lines [] (reply ∷ replies) are = absurd are
answers_lines (e ∷ es) [] are = absurd are
answers_lines (e ∷ es) (reply ∷ replies) are = All-cons IsLine reply replies are.1 (answers_lines es replies are.2)

-- what was written for them is cut into these lines and no others
pub answers_cut : (written : List ℕ) (es : List Exchange) (replies others : List (List ℕ)) (rest : List ℕ) → AreAnswers es replies → written ≡ text_of es → IsCut written others rest → others ≡ replies
answers_cut written es replies others rest are is cut =
    (IsCut-unique written others replies rest [] cut (record {
      joined = is ∙ answers_text es replies are ∙ sym (append-nil (flat_map ended replies));
      whole = answers_lines es replies are;
      unended = IsLine-nil;
    })).0

pub answers_at : (es : List Exchange) (replies others : List (List ℕ)) (place : ℕ) → AreAnswers es replies → others ≡ replies → reply_at others place ≡ reply_to es place
answers_at es replies others place are same =
    ap (λ (rs : List (List ℕ)). reply_at rs place) same ∙ ap (λ (ts : List (List ℕ)). slice_index_or ts place []) (sym (answers_map es replies are))

ended_once : (a b : List ℕ) → ended a ≡ ended b → a ≡ b
ended_once a b same = append_cancel_right a b (newline ∷ []) same

ended_some : (text : List ℕ) → [] ≡ ended text → ⊥
ended_some [] same = let never : ⊥ = cc in never
ended_some (byte ∷ bytes) same = let never : ⊥ = cc in never

-- what was written for these exchanges is these lines; where none of them is the refusal for want of memory, no exchange has it
pub record AreWritten (es : List Exchange) : Type 0 where
  pub replies : List (List ℕ)
  pub text : text_of es ≡ flat_map ended replies
  pub plain : All IsLine replies
  pub done : NoLineWants replies → NoneWants es

-- a line is answered with nothing or with one line
replied_one : (line text : List ℕ) → IsReplied line text → (text ≡ []) ⊎ ((reply : List ℕ) × IsLine reply × (text ≡ ended reply))
replied_one [] text is = inl (is.none refl)
replied_one (byte ∷ bytes) text is = let reply = is.some (λ same. let never : ⊥ = cc in never) in inr (reply.0, (reply.1).plain, reply.2)

pub written_of : {W : Type 0} (step : W → Exchange → W → Type 0) → ((a : W) (e : Exchange) (b : W) → step a e b → IsReplied e.line e.text) → (before after : W) (es : List Exchange) → LeadsTo step before es after → AreWritten es
written_of step replied before after [] leads = record { replies = []; text = refl; plain = All-nil IsLine; done = λ done. tt }
written_of step replied before after (e ∷ es) leads =
    let rest = written_of step replied leads.0 after es leads.2 in
    elim (replied_one e.line e.text (replied before e leads.0 leads.1)) [
      | inl none ↦ record {
        replies = rest.replies;
        text = ap (λ (t : List ℕ). t ++ text_of es) none ∙ rest.text;
        plain = rest.plain;
        done = λ done. ((λ is. ended_some (refusal_text OutOfMemory) (sym none ∙ is)), rest.done done);
      }
      | inr (reply, plain, is) ↦ record {
        replies = reply ∷ rest.replies;
        text = ap (λ (t : List ℕ). t ++ text_of es) is ∙ ap (λ (t : List ℕ). ended reply ++ t) rest.text;
        plain = All-cons IsLine reply rest.replies plain rest.plain;
        done = λ done. ((λ same. done.0 (ended_once reply (refusal_text OutOfMemory) (sym is ∙ same))), rest.done done.1);
      }
    ]

-- none was refused for want of memory where no line that was written says so
pub none_wants : (written : List ℕ) (es : List Exchange) → AreWritten es → written ≡ text_of es → NoneIsWant written → NoneWants es
none_wants written es are is none =
    are.done (none are.replies [] (record { joined = is ∙ are.text ∙ sym (append-nil (flat_map ended are.replies)); whole = are.plain; unended = IsLine-nil }))

-- ---- what is shown

pub reply_there : (replies : List (Bor (List ℕ))) (place : ℕ) (reply : Bor (List ℕ)) → true ≡ nat_lt place (length replies) → reply ≡ slice_index_or replies place reply → ended reply.now ≡ reply_at (map (λ r. r.now) replies) place
reply_there replies place reply within is =
    let less = ltb-true place (length replies) (sym within) in
    let same = length-map replies (λ (r : Bor (List ℕ)). r.now) in
    ap (λ (r : Bor (List ℕ)). ended r.now) is
    ∙ ap ended (sym (get_or-map (λ (r : Bor (List ℕ)). r.now) replies place reply reply.now less))
    ∙ sym (get_or-map ended (map (λ r. r.now) replies) place reply.now [] (omega (arith, less, same)))

-- four texts one behind the other
pub four_texts : (a b c d t t1 t2 t3 t4 : List ℕ) → t ≡ [] → t1 ≡ t ++ a → t2 ≡ t1 ++ b → t3 ≡ t2 ++ c → t4 ≡ t3 ++ d → t4 ≡ a ++ (b ++ (c ++ d))
four_texts a b c d t t1 t2 t3 t4 none one two three four =
    four ∙ ap (λ (x : List ℕ). x ++ d) (three ∙ ap (λ (x : List ℕ). x ++ c) (two ∙ ap (λ (x : List ℕ). x ++ b) (one ∙ ap (λ (x : List ℕ). x ++ a) none)))
    ∙ append_assoc (a ++ b) c d ∙ append_assoc a b (c ++ d)

-- ---- lines

pub lines_more : (lines : List (List ℕ)) (line : List ℕ) → flat_map ended (lines ++ line ∷ []) ≡ flat_map ended lines ++ ended line
lines_more lines line = flat_map-append ended lines (line ∷ []) ∙ ap (λ (t : List ℕ). flat_map ended lines ++ t) (append-nil (ended line))

-- the next line is cut off
pub cut_more : (text rest : List ℕ) (lines : List (List ℕ)) (line behind : List ℕ) → text ≡ flat_map ended lines ++ rest → rest ≡ ended line ++ behind → text ≡ flat_map ended (lines ++ line ∷ []) ++ behind
cut_more text rest lines line behind is cut =
    is ∙ ap (λ (t : List ℕ). flat_map ended lines ++ t) cut ∙ sym (append_assoc (flat_map ended lines) (ended line) behind) ∙ ap (λ (t : List ℕ). t ++ behind) (sym (lines_more lines line))

pub cut_shorter : (rest line behind : List ℕ) → rest ≡ ended line ++ behind → length behind < length rest
cut_shorter rest line behind cut = let a = length-append (ended line) behind in let b = length-append line (newline ∷ []) in omega (arith, ap length cut, a, b)

-- some first lines of a text, none of which is the refusal for want of memory, and what stands behind them
pub record NoneYet (written rest : List ℕ) : Type 0 where
  pub lines : List (List ℕ)
  pub joined : written ≡ flat_map ended lines ++ rest
  pub plain : All IsLine lines
  pub none : NoLineWants lines

pub none_first : (written : List ℕ) → NoneYet written written
none_first written = record { lines = []; joined = refl; plain = All-nil IsLine; none = tt }

done_push : (lines : List (List ℕ)) (line : List ℕ) → NoLineWants lines → line ≢ refusal_text OutOfMemory → NoLineWants (lines ++ line ∷ [])
done_push [] line none other = (other, tt)
done_push (first ∷ lines) line none other = (none.0, done_push lines line none.1 other)

pub none_next : (written rest line behind : List ℕ) → NoneYet written rest → IsLine line → rest ≡ ended line ++ behind → line ≢ refusal_text OutOfMemory → NoneYet written behind
none_next written rest line behind yet plain cut other = record {
  lines = yet.lines ++ line ∷ [];
  joined = cut_more written rest yet.lines line behind yet.joined cut;
  plain = All-push IsLine yet.lines line yet.plain plain;
  none = done_push yet.lines line yet.none other;
}

pub none_last : (written rest : List ℕ) → NoneYet written rest → IsLine rest → NoneIsWant written
none_last written rest yet unended = λ replies behind cut.
    subst NoLineWants (sym (IsCut-unique written replies yet.lines behind rest cut (record { joined = yet.joined; whole = yet.plain; unended = unended })).0) yet.none

-- the next line is the refusal
pub some_next : (written rest line behind : List ℕ) → NoneYet written rest → rest ≡ ended line ++ behind → line ≡ refusal_text OutOfMemory → HasWant written
some_next written rest line behind yet cut is = record {
  lines = yet.lines;
  behind = behind;
  is = yet.joined ∙ ap (λ (t : List ℕ). flat_map ended yet.lines ++ t) (cut ∙ ap (λ (l : List ℕ). ended l ++ behind) is);
}

lines_all : (lines : List (List ℕ)) → AllByRecursion IsLine lines → All IsLine lines
lines_all [] each = All-nil IsLine
lines_all (line ∷ lines) each = All-cons IsLine line lines each.0 (lines_all lines each.1)

-- a run that read a text of these lines to its end answered just these
pub run_lines : {W : Type 0} (step : W → Exchange → W → Type 0) (Ended : Type 0) (before after : W) (lines : List (List ℕ)) (bytes gained : List ℕ) (left : Option (List ℕ)) → AllByRecursion IsLine lines
    → Consumes (Some (flat_map ended lines)) left bytes → IsAtEnd left → (run : Run step Ended before bytes gained InputEnded after) → lines_of run.exchanges ≡ lines
run_lines step Ended before after lines bytes gained left each reads over run =
    let whole : bytes ≡ flat_map ended lines = Consumes-all (Some (flat_map ended lines)) left bytes [] bytes reads over refl in
    let unique = IsCut-unique bytes run.lines lines run.rest [] run.cut (record {
      joined = whole ∙ sym (append-nil (flat_map ended lines));
      whole = lines_all lines each;
      unended = IsLine-nil;
    }) in
    run.answered ∙ ap (λ (rest : List ℕ). run.lines ++ last_line rest) unique.1 ∙ append-nil run.lines ∙ unique.0
