-- The text that tells what the program does, its words and its statuses.
use Rattle.std.specs.Prelude.{ℕ, List, ◌++◌, codes}

-- What it tells of itself.
unfoldable pub help_text : List ℕ
help_text =
    codes "paint tells what each node of a stream has of a coat, which says what the vertices\n"
    ++ codes "and faces of the mesh have: colours, texture coordinates, pages. It reads standard\n"
    ++ codes "input.\n"
    ++ codes "\n"
    ++ codes "  cat mesh.vdpm mesh.coat | ./paint > mesh.lines\n"
    ++ codes "\n"
    ++ codes "There are no words but --help and --version. Status 0: the lines were "
    ++ codes "written. 1: the\n"
    ++ codes "input has a fault. 2: other words. 3: a read failed. 4: a write failed. 5: out of\n"
    ++ codes "memory. docs/commands/paint.md tells all of it; ./simplify makes streams.\n"
    ++ codes "./paint --version tells which program is run, and whether it is proved.\n"
