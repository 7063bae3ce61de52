-- How printing functions chain: what one wrote, and then what the next did.
--
-- A caller of one to three of them mostly needs no answer. At more, the exit of each `?` that is
-- left open takes `search (rules, printing)`, and so does the last call, returned as it is.
-- A loop over a slice that prints each item has the invariant
--   Wrote g.W.Sink l.initial.sink l.sink (flat_map text_of (take l.item-index l.items))
-- and takes `search (rules, printing_items)` at the exit of its `?`; where the items own memory, with
-- WroteFront-item g.W.Sink _ c.args.items.now _ c.item-item.result c.loop-item.invariant
--   c.loop-item-test.true c.in_err-CALL.ensures.printed cc
-- in the list, in place of the set.
use Rattle.std.proofs.Common.{◌≡◌, ℕ, Result, Ok, Err, ◌+◌, ◌<◌, get_or, List, [], ◌∷◌, ◌++◌, length, take, drop, subst, refl, sym, ap, ◌∙◌, arith, append_assoc}
use Rattle.std.proofs.lemmas.List.{append-nil, take-append-drop, take_more, drop_more}
use Rattle.std.proofs.lemmas.Grind.{common_steps, flat_map-append}
use Rattle.std.specs.List.{flat_map}
use Rattle.vt_io.specs.declared.output.Sink.{Ghosts}
use Rattle.vt_io.specs.Sink.{Wrote, WroteFront, Prints}

-- what comes before an item, the item, and what comes after it
flat_map_at : {X : Type 0} (f : X → List ℕ) (xs : List X) (i : ℕ) (d : X) → i < length xs →
    flat_map f xs ≡ flat_map f (take i xs) ++ (f (get_or xs i d) ++ flat_map f (drop (i + 1) xs))
flat_map_at f xs i d h = ap (λ t. flat_map f t) (sym (take-append-drop i xs))
    ∙ flat_map-append f (take i xs) (drop i xs) ∙ ap (λ t. flat_map f (take i xs) ++ flat_map f t) (drop_more xs i d h)

-- one more item
pub flat_map_more : {X : Type 0} (f : X → List ℕ) (xs : List X) (i : ℕ) (d : X) → i < length xs →
    flat_map f (take (i + 1) xs) ≡ flat_map f (take i xs) ++ f (get_or xs i d)
flat_map_more f xs i d h = ap (flat_map f) (take_more xs i d h) ∙ flat_map-append f (take i xs) (get_or xs i d ∷ [])
    ∙ ap (λ last. flat_map f (take i xs) ++ last) (append-nil (f (get_or xs i d)))

module _ {W : Type 0} (sink : Ghosts W) where
  -- nothing, before the first write
  pub Wrote-nothing : (x : W) → Wrote sink x x []
  Wrote-nothing x =
      record { still_tells = λ t. t; appended = λ t. sym (append-nil (sink.written x)); failures_kept = refl }

  -- one text and then another
  pub Wrote-append : {x y z : W} {a b : List ℕ} → Wrote sink x y a → Wrote sink y z b → Wrote sink x z (a ++ b)
  Wrote-append {x} {y} {z} {a} {b} p q = record {
    still_tells = λ t. q.still_tells (p.still_tells t);
    appended = λ t. q.appended (p.still_tells t) ∙ ap (λ w. w ++ b) (p.appended t) ∙ append_assoc (sink.written x) a b;
    failures_kept = q.failures_kept ∙ p.failures_kept;
  }

  -- one text and then a front of another
  pub WroteFront-append :
      {x y z : W} {a b : List ℕ} → Wrote sink x y a → WroteFront sink y z b → WroteFront sink x z (a ++ b)
  WroteFront-append {x} {y} {z} {a} {b} p q = grind (arith, common_steps)

  -- a front of a text is one of what the text begins
  pub WroteFront-longer : {x y : W} {a : List ℕ} (b : List ℕ) → WroteFront sink x y a → WroteFront sink x y (a ++ b)
  WroteFront-longer {x} {y} {a} b p = grind (arith, common_steps)

  -- one text and then what a function that prints another answered
  pub Prints-append : {T E : Type 0} {x y : W} {a : List ℕ} (z : W) (b : List ℕ) (r : Result T E) →
      Wrote sink x y a → Prints sink b r y z → Prints sink (a ++ b) r x z
  Prints-append z b (Ok _) p q = Wrote-append p q
  Prints-append z b (Err _) p q = WroteFront-append p q

  -- what comes before a part, and then a front of the part
  pub WroteFront-part : {x y z : W} {before part text : List ℕ} (after : List ℕ) →
      Wrote sink x y before → WroteFront sink y z part → before ++ (part ++ after) ≡ text → WroteFront sink x z text
  WroteFront-part {x} {z} after p q e =
      subst (λ t. WroteFront sink x z t) e (WroteFront-append p (WroteFront-longer after q))

  -- the items before one, and then a front of what is printed for it
  pub WroteFront-item : {X : Type 0} {x y z : W} {part : List ℕ} (f : X → List ℕ) (xs : List X) (i : ℕ) (d : X) →
      Wrote sink x y (flat_map f (take i xs)) → i < length xs → WroteFront sink y z part → part ≡ f (get_or xs i d) →
      WroteFront sink x z (flat_map f xs)
  WroteFront-item {y} {z} f xs i d p h q e =
      WroteFront-part (flat_map f (drop (i + 1) xs)) p (subst (λ t. WroteFront sink y z t) e q)
      (sym (flat_map_at f xs i d h))

  -- the items so far, of which the last were held back, and then a front of these
  pub WroteFront-held : {X : Type 0} {x y z : W} {written held : List ℕ} (f : X → List ℕ) (xs : List X) (i : ℕ) →
      Wrote sink x y written → WroteFront sink y z held → written ++ held ≡ flat_map f (take i xs) →
      WroteFront sink x z (flat_map f xs)
  WroteFront-held {written} {held} f xs i p q e =
      let after = flat_map f (drop i xs) in
      WroteFront-part after p q (sym (append_assoc written held after) ∙ ap (λ before. before ++ after) e
      ∙ sym (flat_map-append f (take i xs) (drop i xs)) ∙ ap (flat_map f) (take-append-drop i xs))

-- For `search`: what a function did that calls others which print, one after another.
pub ruleset printing = (Wrote-append, WroteFront-append, WroteFront-longer, Prints-append)

-- For `search`: the same where a loop over a slice prints what its items are printed as.
pub ruleset printing_items = (WroteFront-item, WroteFront-append, WroteFront-longer)
