-- Lists of handles and of what workers gave back, one longer or one shorter.
use Rattle.std.proofs.Common.{◌≡◌, List, [], ◌∷◌, ◌++◌, All, sym}
use Rattle.std.proofs.lemmas.List.Elements.{All-head, All-rest, All-push, All-same}

module _ {X : Type 0} (P : X → Type 0) where
  pub first_of_all : (x : X) (rest all : List X) → all ≡ x ∷ rest → All P all → P x
  first_of_all x rest all e h = All-head P x rest (All-same P (x ∷ rest) all (sym e) h)

  pub rest_of_all : (x : X) (rest all : List X) → all ≡ x ∷ rest → All P all → All P rest
  rest_of_all x rest all e h = All-rest P x rest all e h

  pub one_more_of_all : (xs ys : List X) (x : X) → ys ≡ xs ++ x ∷ [] → All P xs → P x → All P ys
  one_more_of_all xs ys x e h p = All-same P ys (xs ++ x ∷ []) e (All-push P xs x h p)
