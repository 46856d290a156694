-- The text that tells what the program does, its words and its statuses.
use Rattle.std.specs.Prelude.{ℕ, List, ◌++◌, codes}

-- What it tells of itself.
unfoldable pub help_text : List ℕ
help_text =
    codes "pack packs a stream: a sixth of its bytes or so, and it comes back byte for byte. It\n"
    ++ codes "reads standard input.\n"
    ++ codes "\n"
    ++ codes "  ./pack < mesh.vdpm > mesh.vdpz\n"
    ++ codes "  ./pack --unpack [--records N] < mesh.vdpz > mesh.vdpm\n"
    ++ codes "\n"
    ++ codes "With N the first N records come alone, or as many as a text that is cut off "
    ++ codes "tells.\n"
    ++ codes "Status 0: all was written. 1: the input has a fault. 2: other words. 3: a "
    ++ codes "read failed.\n"
    ++ codes "4: a write failed. 5: out of memory. docs/commands/pack.md tells all of it;\n"
    ++ codes "./simplify makes streams.\n"
    ++ codes "./pack --version tells which program is run, and whether it is proved.\n"
