-- The words of routes, with one route more.
use Rattle.std.proofs.Common.{◌≡◌, ℕ, Bool, true, false, List, [], ◌∷◌, ◌++◌, ◌||◌, cond, refl, sym, ap, ◌∙◌, append_assoc, append-nil, map}
use Rattle.vt_spec.proofs.Common.{Route, map-append, or-false}
use Rattle.vt_spec.specs.Machine.Turns.{some_fails, words_of}
use Rattle.vt_steps.specs.declared.paths.Route.{Route as CodeRoute}
use Rattle.vt_steps.specs.RouteValue.{route_of, words_in}

one_route : (fails : Bool) (steps : List (List ℕ)) → cond fails steps (steps ++ []) ≡ steps
one_route true steps = refl
one_route false steps = append-nil steps

more_words : (fails some : Bool) (first rest more : List (List ℕ))
    → cond fails first (first ++ cond some rest (rest ++ more))
    ≡ cond (fails || some) (cond fails first (first ++ rest)) (cond fails first (first ++ rest) ++ more)
more_words true some first rest more = refl
more_words false true first rest more = refl
more_words false false first rest more = sym (append_assoc first rest more)

pub words_more : (routes : List (Route ℕ)) (more : Route ℕ) → words_of (routes ++ (more ∷ []))
    ≡ cond (some_fails routes) (words_of routes) (words_of routes ++ more.steps)
words_more [] more = one_route more.fails more.steps
words_more (route ∷ rest) more =
    ap (λ words. cond route.fails route.steps (route.steps ++ words)) (words_more rest more)
    ∙ more_words route.fails (some_fails rest) route.steps (words_of rest) more.steps

some_more : (routes : List (Route ℕ)) (more : Route ℕ)
    → (some_fails routes || more.fails) ≡ some_fails (routes ++ (more ∷ []))
some_more [] more = sym (or-false more.fails)
some_more (route ∷ rest) more = by route.fails (some_fails rest) (some_more rest more)
  where
    by : (first some : Bool) → (some || more.fails) ≡ some_fails (rest ++ (more ∷ []))
        → ((first || some) || more.fails) ≡ (first || some_fails (rest ++ (more ∷ [])))
    by true some e = refl
    by false some e = e

-- the words of a call, with those of one path more
pub one-more : (before : List CodeRoute) (route : CodeRoute) (words more : List (List ℕ)) (some fails : Bool)
    → words ≡ words_of (map route_of before) → some ≡ some_fails (map route_of before)
    → more ≡ cond some words (words ++ words_in route.steps) → fails ≡ (some || route.fails)
    → (more ≡ words_of (map route_of (before ++ (route ∷ []))))
    × (fails ≡ some_fails (map route_of (before ++ (route ∷ []))))
one-more before route words more some fails w s m f = (
  m ∙ (λ i. cond (s i) (w i) (w i ++ words_in route.steps)) ∙ sym (words_more (map route_of before) (route_of route))
      ∙ ap words_of (sym (map-append route_of before (route ∷ []))),
  f ∙ ap (λ b. b || route.fails) s ∙ some_more (map route_of before) (route_of route)
      ∙ ap some_fails (sym (map-append route_of before (route ∷ []))),
)
