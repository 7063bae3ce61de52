use Rattle.std.proofs.Common.{rules, arith, ◌≡◌, ◌++◌, ◌∷◌, ◌∙◌, [], ap, append-nil, append_assoc, length, length-append, None, reverse, subst, sym, true}
use Rattle.vt_spec.proofs.Common.{All-head, reverse-append}
use Rattle.vt_births.specs.Births.{copy_of, is_born_below}
use Rattle.vt_copyup.specs.Made.{AreMade, parent_made}
use Rattle.vt_copyup.specs.Plans.{AreReady, FirstFits, copies_of, in_turn}
use Rattle.vt_copyup.specs.declared.plans.Piece.{Piece}
use Rattle.vt_location.specs.declared.locations.InodeRef.{InodeRef}
use Rattle.vt_copyup.proofs.Next.{no_birth_in, one_left}
use Rattle.vt_copyup.proofs.Stepping.{IsStep, OwnFits, fits_next, last_filesystem, none_made, none_parent, one_more, ready_next}
use Rattle.vt_copyup.proofs.plans.Plan.grow.Goals as goal

pub returns-in_default-clause-made : goal.returns-in_default-clause-made
returns-in_default-clause-made c =
    let none : c.args.self.pieces.items ≡ [] = search rules in
    subst (λ items. (are : AreMade c.args.self.directory (copies_of (reverse items)) c.args.trees.now c.args.births.now
    c.args.trees.now c.args.births.now c.args.self.directory) × (c.args.self.directory
    ≡ parent_made c.args.self.directory are.made)) (sym none) (
      none_made c.args.self.directory c.args.trees.now c.args.births.now,
      none_parent c.args.self.directory c.args.trees.now c.args.births.now,
    )

pub add-requires-clause-below : goal.add-requires-clause-below
add-requires-clause-below c =
    let rest = reverse c.pop.new.self.items in
    let popped : c.args.self.pieces.items ≡ c.pop.new.self.items ++ c.in-Some.first ∷ [] = search rules in
    let turned : in_turn c.args.self ≡ c.in-Some.first ∷ rest =
    ap reverse popped ∙ reverse-append c.pop.new.self.items (c.in-Some.first ∷ []) in
    let ready = subst (λ l. AreReady l c.args.self.directory c.args.trees.now c.args.births.now) turned c.requires.all in
    All-head (λ (one : Piece). is_born_below one.copy.born ≡ true) c.in-Some.first rest ready.below

pub add-requires-clause-node : goal.add-requires-clause-node
add-requires-clause-node c =
    let rest = reverse c.pop.new.self.items in
    let popped : c.args.self.pieces.items ≡ c.pop.new.self.items ++ c.in-Some.first ∷ [] = search rules in
    let turned : in_turn c.args.self ≡ c.in-Some.first ∷ rest =
    ap reverse popped ∙ reverse-append c.pop.new.self.items (c.in-Some.first ∷ []) in
    let ready = subst (λ l. AreReady l c.args.self.directory c.args.trees.now c.args.births.now) turned c.requires.all in
    All-head (λ (one : Piece). copy_of c.args.births.now one.copy.born ≡ None) c.in-Some.first rest ready.new

pub add-requires-clause-slot : goal.add-requires-clause-slot
add-requires-clause-slot c =
    no_birth_in c.args.trees.now c.args.self.directory c.args.births.now c.requires.all.there c.make-here.result
    c.make-here.ensures.filesystem c.make-here.ensures.vacant

pub loop-piece-init : goal.loop-piece-init
loop-piece-init c =
    let directory = c.args.self.directory in
    let trees = c.args.trees.now in
    let births = c.args.births.now in
    let first = c.in-Some.first in
    let rest = reverse c.pop.new.self.items in
    let popped : c.args.self.pieces.items ≡ c.pop.new.self.items ++ first ∷ [] = search rules in
    let turned : in_turn c.args.self ≡ first ∷ rest =
    ap reverse popped ∙ reverse-append c.pop.new.self.items (first ∷ []) in
    let ready = subst (λ l. AreReady l directory trees births) turned c.requires.all in
    let fits = subst (λ l. FirstFits l c.args.room.now directory trees) turned c.requires.first in
    let step : IsStep first.copy directory trees births c.make-here.new.trees c.add.new.self c.make-here.result =
    record {
      made = c.make-here.ensures.made;
      vacant = c.make-here.ensures.vacant;
      filesystem = c.make-here.ensures.filesystem;
      nodes = c.add.ensures.nodes;
      slots = c.add.ensures.copies;
      inodes_left = c.make-here.ensures.inodes_left;
      births_left = one_left births first rest c.add.new.self.promised ready.many_births c.add.ensures.promised;
    } in
    let more = one_more directory [] first.copy trees births trees births c.make-here.new.trees c.add.new.self
    directory c.make-here.result (none_made directory trees births) step fits.there in
    record {
      done = first.copy ∷ [];
      split = ap copies_of (sym turned);
      made = more.0;
      parent_is = more.1;
      ready = ready_next first rest directory trees births c.make-here.new.trees c.add.new.self
          c.make-here.result step fits.there ready;
      fits = fits_next first rest directory trees births c.make-here.new.trees c.add.new.self
          c.make-here.result step fits.there ready;
    }

pub add-requires-in-Some-pop-clause-below : goal.add-requires-in-Some-pop-clause-below
add-requires-in-Some-pop-clause-below c =
    let items = c.pop-in-loop-piece.new.self.items in
    let piece = c.in-Some-pop.piece in
    let popped : c.loop-piece.pieces.items ≡ items ++ piece ∷ [] = search rules in
    let turned : reverse c.loop-piece.pieces.items ≡ piece ∷ reverse items =
    ap reverse popped ∙ reverse-append items (piece ∷ []) in
    let ready = subst (λ l. AreReady l c.loop-piece.here c.loop-piece.trees c.loop-piece.births) turned
    c.loop-piece.invariant.ready in
    All-head (λ (one : Piece). is_born_below one.copy.born ≡ true) piece (reverse items) ready.below

pub add-requires-in-Some-pop-clause-node : goal.add-requires-in-Some-pop-clause-node
add-requires-in-Some-pop-clause-node c =
    let items = c.pop-in-loop-piece.new.self.items in
    let piece = c.in-Some-pop.piece in
    let popped : c.loop-piece.pieces.items ≡ items ++ piece ∷ [] = search rules in
    let turned : reverse c.loop-piece.pieces.items ≡ piece ∷ reverse items =
    ap reverse popped ∙ reverse-append items (piece ∷ []) in
    let ready = subst (λ l. AreReady l c.loop-piece.here c.loop-piece.trees c.loop-piece.births) turned
    c.loop-piece.invariant.ready in
    All-head (λ (one : Piece). copy_of c.loop-piece.births one.copy.born ≡ None) piece (reverse items) ready.new

pub add-requires-in-Some-pop-clause-slot : goal.add-requires-in-Some-pop-clause-slot
add-requires-in-Some-pop-clause-slot c =
    let made = c.make-here-in-Some-pop in
    no_birth_in c.loop-piece.trees c.loop-piece.here c.loop-piece.births c.loop-piece.invariant.ready.there made.result
    made.ensures.filesystem made.ensures.vacant

pub loop-piece-preserved : goal.loop-piece-preserved
loop-piece-preserved c =
    let here = c.loop-piece.here in
    let trees = c.loop-piece.trees in
    let births = c.loop-piece.births in
    let was = c.loop-piece.invariant in
    let items = c.pop-in-loop-piece.new.self.items in
    let piece = c.in-Some-pop.piece in
    let made = c.make-here-in-Some-pop in
    let added = c.add-in-Some-pop in
    let popped : c.loop-piece.pieces.items ≡ items ++ piece ∷ [] = search rules in
    let turned : reverse c.loop-piece.pieces.items ≡ piece ∷ reverse items =
    ap reverse popped ∙ reverse-append items (piece ∷ []) in
    let ready = subst (λ l. AreReady l here trees births) turned was.ready in
    let fits = subst (λ l. OwnFits l here trees) turned was.fits in
    let step : IsStep piece.copy here trees births made.new.trees added.new.self made.result = record {
      made = made.ensures.made;
      vacant = made.ensures.vacant;
      filesystem = made.ensures.filesystem;
      nodes = added.ensures.nodes;
      slots = added.ensures.copies;
      inodes_left = made.ensures.inodes_left;
      births_left = one_left births piece (reverse items) added.new.self.promised ready.many_births
          added.ensures.promised;
    } in
    let more = one_more c.args.self.directory was.done piece.copy c.args.trees.now c.args.births.now trees births
    made.new.trees added.new.self here made.result was.made step fits.there in
    record {
      done = was.done ++ piece.copy ∷ [];
      split = append_assoc was.done (piece.copy ∷ []) (copies_of (reverse items))
          ∙ ap (λ l. was.done ++ copies_of l) (sym turned) ∙ was.split;
      made = more.0;
      parent_is = more.1;
      ready = ready_next piece (reverse items) here trees births made.new.trees added.new.self made.result step
          fits.there ready;
      fits = fits_next piece (reverse items) here trees births made.new.trees added.new.self made.result step
          fits.there ready;
    }

pub returns-clause-made : goal.returns-clause-made
returns-clause-made c =
    let was = c.loop-piece.invariant in
    let directory = c.args.self.directory in
    let none : c.loop-piece.pieces.items ≡ [] = search rules in
    let all : was.done ≡ copies_of (in_turn c.args.self) =
    sym (append-nil was.done) ∙ ap (λ items. was.done ++ copies_of (reverse items)) (sym none) ∙ was.split in
    subst (λ l. (are : AreMade directory l c.args.trees.now c.args.births.now c.loop-piece.trees c.loop-piece.births
    c.loop-piece.here) × (c.loop-piece.parent ≡ parent_made directory are.made)) all (was.made, was.parent_is)

pub returns-clause-filesystem : goal.returns-clause-filesystem
returns-clause-filesystem c =
    let made = c.loop-piece.invariant.made in
    ap (λ (l : InodeRef). l.filesystem) made.is_last ∙ last_filesystem made.made c.args.self.directory

pub returns-clause-room : goal.returns-clause-room
returns-clause-room c = λ none.
    let popped : c.args.self.pieces.items ≡ c.pop.new.self.items ++ c.in-Some.first ∷ [] = search rules in
    let longer = length-append c.pop.new.self.items (c.in-Some.first ∷ []) in
    let many = ap length (sym none ∙ popped) in
    absurd (let no : ⊥ = omega (arith, longer, many) in no)
