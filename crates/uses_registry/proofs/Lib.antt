mod PieceLaws
