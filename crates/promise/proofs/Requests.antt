-- Lists of requests: one request more, and the book that they leave.
use Rattle.std.proofs.Common.{◌≡◌, ℕ, ◌+◌, ◌<◌, ◌≤◌, List, [], ◌∷◌, ◌++◌, length, get_or, take, sym, refl, ap, ◌∙◌, subst}
use Rattle.std.proofs.lemmas.List.{take_more, take_all}
use Rattle.book.specs.Fed.{fed_from}
use Rattle.promise.specs.declared.parts.Request.{Request}
use Rattle.promise.specs.declared.parts.Request.TheVariants.{Book, Strong, Weak, Dynamic}
use Rattle.promise.specs.declared.parts.Reply.{Reply}
use Rattle.promise.specs.Serving.{Desk, Served, AllServed, calls_among}

-- one request more
pub served_push : (d : Desk) (qs : List Request) (rs : List Reply) (e : Desk) (q : Request) (r : Reply) (f : Desk) →
    AllServed d qs rs e → Served e q r f → AllServed d (qs ++ (q ∷ [])) (rs ++ (r ∷ [])) f
served_push d [] rs e q r f (none, same) s =
    (r, [], f, ap (λ xs. xs ++ (r ∷ [])) none, subst (λ x. Served x q r f) same s, (refl, refl))
served_push d (p ∷ qs) rs e q r f (x, rest, g, is, first, more) s =
    (x, rest ++ (r ∷ []), g, ap (λ xs. xs ++ (r ∷ [])) is, first, served_push g qs rest e q r f more s)

pub served_more : (qs : List Request) (i : ℕ) (x : Request) (d e f : Desk) (rs after : List Reply) (r : Reply) → i < length qs → after ≡ rs ++ (r ∷ []) →
    AllServed d (take i qs) rs e → Served e (get_or qs i x) r f → AllServed d (take (i + 1) qs) after f
served_more qs i x d e f rs after r h is all s =
    subst (λ ys. AllServed d (take (i + 1) qs) ys f) (sym is)
    (subst (λ ys. AllServed d ys (rs ++ (r ∷ [])) f) (sym (take_more qs i x h)) (served_push d (take i qs) rs e (get_or qs i x) r f all s))

pub served_all : (qs : List Request) (i : ℕ) (d e : Desk) (rs : List Reply) → length qs ≤ i → AllServed d (take i qs) rs e → AllServed d qs rs e
served_all qs i d e rs h all = subst (λ ys. AllServed d ys rs e) (take_all i qs h) all

-- the plan after one request, and after a list of them
plan_after : (d : Desk) (q : Request) (qs : List Request) (r : Reply) (e : Desk) → Served d q r e →
    fed_from e.plan (calls_among qs) ≡ fed_from d.plan (calls_among (q ∷ qs))
plan_after d (Book c) qs r e (_, is) = ap (λ x. fed_from x.plan (calls_among qs)) is
plan_after d Strong qs r e (_, _, same, _) = ap (λ b. fed_from b (calls_among qs)) same
plan_after d Weak qs r e (_, _, same, _) = ap (λ b. fed_from b (calls_among qs)) same
plan_after d Dynamic qs r e (_, _, same, _, _) = ap (λ b. fed_from b (calls_among qs)) same

pub plan_served : (d : Desk) (qs : List Request) (rs : List Reply) (e : Desk) → AllServed d qs rs e → e.plan ≡ fed_from d.plan (calls_among qs)
plan_served d [] rs e (_, same) = ap (λ x. x.plan) same
plan_served d (q ∷ qs) rs e (r, rest, f, _, s, more) = plan_served f qs rest e more ∙ plan_after d q qs r f s
