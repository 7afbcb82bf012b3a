-- What a rotation by one leaves: one element more, or one less, among the first of a list.
use Rattle.std.proofs.Common.{◌≡◌, ℕ, ◌+◌, ◌-◌, ◌<◌, ◌≤◌, List, [], ◌∷◌, ◌++◌, length, take, drop, set, sym, ap, ◌∙◌, ap₂, append_assoc, add-one, arith, length-append, length-drop, length-set, length-take-le}
use borrow.Rule.Slice.PartMut.{put_mid}
use Rattle.std.specs.List.{insert, remove}
use Rattle.std.proofs.lemmas.List.{take_at, drop_at, take-take, take-set-le, take_more_set, drop-append-le, drop-drop, length_push}
use Rattle.std.proofs.lemmas.Slice.{between_is, take-put_mid}

module _ {X : Type 0} (xs ys : List X) (used at : ℕ) where
  pub rotated_left : at < used → used ≤ length xs →
      ys ≡ drop 1 (take (used - at) (drop at xs)) ++ take 1 (take (used - at) (drop at xs)) →
      take (used - 1) (put_mid at (used - at) xs ys) ≡ remove (take used xs) at
  rotated_left h l e =
      let mid : List X = take (used - at) (drop at xs) in
      let post : List X = drop (used - at) (drop at xs) in
      let front : length (take at xs ++ drop 1 mid) ≡ used - 1 = omega (arith, length-append (take at xs) (drop 1 mid), length-take-le at xs (omega arith), length-drop 1 mid, length-take-le (used - at) (drop at xs) (omega (arith, length-drop at xs))) in
      let group : take at xs ++ ((drop 1 mid ++ take 1 mid) ++ post) ≡ (take at xs ++ drop 1 mid) ++ (take 1 mid ++ post) = simp append_assoc in
      ap (λ y. take (used - 1) (take at xs ++ (y ++ post))) e
      ∙ ap (take (used - 1)) group
      ∙ take_at (take at xs ++ drop 1 mid) (take 1 mid ++ post) (used - 1) front
      ∙ ap (λ y. y ++ drop 1 mid) (sym (take-take at used xs (omega arith)))
      ∙ ap (λ y. take at (take used xs) ++ y) (ap (drop 1) (between_is xs at used) ∙ drop-drop 1 at (take used xs) ∙ ap (λ n. drop n (take used xs)) (add-one at))

  module _ (one : X) (h : at ≤ used) (l : used < length xs) where
    -- what is rotated: the elements from `at` on, and the new one behind them
    rotating : take (used + 1 - at) (drop at (set xs used one)) ≡ drop at (take used xs) ++ one ∷ []
    rotating =
        between_is (set xs used one) at (used + 1)
        ∙ ap (drop at) (take_more_set xs used one l)
        ∙ drop-append-le at (take used xs) (one ∷ []) (omega (arith, length-take-le used xs (omega arith)))

    rest : List X
    rest = drop at (take used xs)

    rest_length : length (drop at (take used xs)) ≡ used - at
    rest_length = omega (arith, length-drop at (take used xs), length-take-le used xs (omega arith))

    pub rotated_right : (mid : List X) → mid ≡ take (used + 1 - at) (drop at (set xs used one)) →
        ys ≡ drop (length mid - 1) mid ++ take (length mid - 1) mid →
        take (used + 1) (put_mid at (used + 1 - at) (set xs used one) ys) ≡ insert (take used xs) at one
    unfolding rest
    rotated_right mid is e =
        let turning : mid ≡ rest ++ one ∷ [] = is ∙ rotating in
        let long : length rest ≡ length mid - 1 = omega (arith, ap length turning, length_push rest one) in
        let turned : ys ≡ one ∷ rest = e ∙ ap (λ m. drop (length mid - 1) m ++ take (length mid - 1) m) turning ∙ ap₂ (λ a b. a ++ b) (drop_at rest (one ∷ []) (length mid - 1) long) (take_at rest (one ∷ []) (length mid - 1) long) in
        take-put_mid at (used + 1 - at) (set xs used one) ys (used + 1) (omega (arith, ap length turned, rest_length)) (omega (arith, length-set xs used one))
        ∙ ap₂ (λ a b. a ++ b) (take-set-le at xs used one h ∙ sym (take-take at used xs h)) turned
