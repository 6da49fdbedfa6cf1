use Rattle.std.proofs.Common.{◌≡◌, ◌<◌, ◌≤◌, ◌-◌, ◌+◌, ℕ, List, [], ◌++◌, length, min, take, drop, sym, ap, ◌∙◌, take-append-drop, length-take, length-drop, length-append, arith}
use Rattle.std.proofs.lemmas.List.{take_rest, take_at, drop-drop, nil_from_length}
use Rattle.view_ports.proofs.memory_source.MemorySourceSource.read.Goals as goal

-- the bytes that a read copied to the front of `into`, followed by those that are left then, are those that were left before
copied : (bytes into given : List ℕ) (at count : ℕ) → given ≡ take count (drop at bytes) → count ≤ length (drop at bytes)
    → drop at bytes ≡ take count (given ++ drop count into) ++ drop (at + count) bytes
copied bytes into given at count is fits =
    let left = drop at bytes in
    let size : length given ≡ count = ap length is ∙ (simp length-take (omega arith)) in
    sym (take-append-drop count left) ∙
    ap (λ xs. xs ++ drop count left) (sym is ∙ sym (take_at given (drop count into) count size)) ∙
    ap (λ xs. take count (given ++ drop count into) ++ xs) (drop-drop count at bytes)

-- none were copied to some room only where none were left
at_end : (bytes into given : List ℕ) (at piece count : ℕ) → length given ≡ count → count ≡ min (min (length into) piece) (length (drop at bytes)) → 0 < piece
    → count ≡ 0 → 0 < length (given ++ drop count into) → drop (at + count) bytes ≡ []
at_end bytes into given at piece count size is some none room =
    let room' : 0 < length given + (length into - count) = simp (length-append, length-drop) at room in
    let is' : count ≡ min (min (length into) piece) (length bytes - at) = simp length-drop at is in
    nil_from_length _ (simp length-drop (omega arith))

pub returns-clause-bytes : goal.returns-clause-bytes
returns-clause-bytes c =
    let s = c.self.inside in
    let into = c.args.into.now in
    let given = c.copy_from_slice.new.self in
    let count = c.min-count.result in
    let left : c.args.self.now.left ≡ drop s.at s.bytes.items = ap (λ state. state.left) (sym c.self.view_is) in
    let seen : take (length c.deref-2.result.now - s.at) (drop s.at c.deref-2.result.now) ≡ drop s.at s.bytes.items =
    ap (λ bytes. take (length bytes - s.at) (drop s.at bytes)) c.deref-2.ensures.value ∙ take_rest s.bytes.items s.at in
    let is : given ≡ take count (drop s.at s.bytes.items) = c.copy_from_slice.ensures.after ∙ ap (take count) seen in
    let most : count ≡ min (min (length into) s.piece) (length (drop s.at s.bytes.items)) =
    c.min-count.ensures ∙ ap (λ n. min n (length (take (length c.deref-2.result.now - s.at) (drop s.at c.deref-2.result.now)))) c.min.ensures ∙ ap (λ bytes. min (min (length into) s.piece) (length bytes)) seen in
    let fits : count ≤ length (drop s.at s.bytes.items) = omega (arith, most) in
    let size : length given ≡ count = ap length is ∙ simp length-take (omega (arith, fits)) in (
      left ∙ copied s.bytes.items into given s.at count is fits,
      at_end s.bytes.items into given s.at s.piece count size most c.self.invariant.0,
    )
