-- Entries that are coded in two parts.
use Rattle.std.proofs.Common.{◌≡◌, ℕ, List, [], ◌∷◌, ◌++◌, ap, sym, ◌∙◌, append_assoc, append-nil}
use Rattle.base_122.specs.declared.book.Book.{Book}
use Rattle.plane_defs.specs.declared.entries.Entry.{Entry}
use Rattle.plane_defs.specs.Spelled.{entry_items, spelled_after}

pub spelled_after-append : (book : Book) (options : List ℕ) (before xs ys : List Entry) →
    spelled_after book options before (xs ++ ys) ≡ spelled_after book options before xs ++ spelled_after book options (before ++ xs) ys
spelled_after-append book options before [] ys = ap (λ b. spelled_after book options b ys) (sym (append-nil before))
spelled_after-append book options before (x ∷ xs) ys =
    ap (λ rest. entry_items book options before x ++ rest)
    (spelled_after-append book options (before ++ x ∷ []) xs ys ∙
    ap (λ b. spelled_after book options (before ++ x ∷ []) xs ++ spelled_after book options b ys) (append_assoc before (x ∷ []) xs)) ∙
    sym (append_assoc (entry_items book options before x) (spelled_after book options (before ++ x ∷ []) xs)
    (spelled_after book options (before ++ (x ∷ xs)) ys))
